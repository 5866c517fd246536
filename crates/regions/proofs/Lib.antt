mod Answers
mod Plans
mod Shows
