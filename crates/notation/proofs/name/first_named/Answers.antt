-- The library's search finds what the definition of a name finds.
use Rattle.std.proofs.Common.{sym, ◌∙◌, rules, tests}
use Rattle.std.specs.Str.{bytes_eq}
use Rattle.std.proofs.lemmas.Iterator.{YieldsList-from_slice}
use Rattle.std.proofs.lemmas.Iterator.Adapters.{option_map_id}
use Rattle.std.proofs.lemmas.Iterator.Consumers.{YieldsList-from_copied}
use Rattle.std.proofs.lemmas.Iterator.Search.{find_from_yields_List}
use Rattle.notation.specs.Names.{name_of}
use Rattle.notation.proofs.Named.{found_with_name}
use Rattle.notation.proofs.name.first_named.Goals as goal

pub returns-clause-value : goal.returns-clause-value
returns-clause-value c =
    let operations = c.args.operations.now in
    sym (option_map_id c.find.result)
    ∙ find_from_yields_List {all = operations} (λ o. bytes_eq c.args.name.now (name_of o)) _ _ _ c.find.ensures.ran (YieldsList-from_copied (YieldsList-from_slice operations cc)) (λ x b q k. search (rules, tests))
    ∙ found_with_name c.args.name.now operations
