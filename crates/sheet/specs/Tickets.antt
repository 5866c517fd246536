-- A ticket, and what is left of it once it is spent.
use Rattle.sheet.specs.declared.ticket.Stub.{Stub}
use Rattle.sheet.specs.declared.ticket.Ticket.{Ticket}

-- the ticket that a stub is left of
abbrev pub ticket_of : Stub → Ticket
ticket_of stub = record { serial = stub.serial; cell = stub.cell }
