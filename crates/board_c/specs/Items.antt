-- The request of a record as a caller in C gets it.
use Rattle.std.specs.Prelude.{ℕ}
use Rattle.council_core.specs.declared.calls.Order.TheVariants as order
use Rattle.board_text.specs.declared.requests.Request.{Request}
use Rattle.board_text.specs.declared.requests.Request.TheVariants as ask
use Rattle.majority_rule.specs.Majorities.{number_of_majority}
use Rattle.c_values.specs.Given.{command_as, fields_with, no_code}
use Rattle.c_values.specs.declared.commands.BoardCommand.{BoardCommand}
use Rattle.c_values.specs.declared.commands.TheConstants.{PUBLISH, READ}
use Rattle.board_c.specs.declared.script.items.BoardItem.{BoardItem}

-- an item between these offsets of an input
abbrev pub with_span : ℕ → ℕ → BoardItem → BoardItem
with_span from to item = record item { from = from; to = to }

-- an item without its span
abbrev pub without_span : BoardItem → BoardItem
without_span item = with_span 0 0 item

-- an item of record number k, without its span
abbrev pub item_with : ℕ → BoardCommand → ℕ → ℕ → BoardItem
item_with k command reader majority = record {
  command = command;
  number = k;
  reader = reader;
  majority = majority;
  from = 0;
  to = 0;
}

-- no command, but a kind of request
abbrev pub only_kind : ℕ → BoardCommand
only_kind kind = fields_with kind no_code 0 0

-- the item of the request of record number k, without its span
abbrev pub item_as : ℕ → Request → BoardItem
item_as k (ask.Order (order.Submit c)) = item_with k (command_as c) 0 0
item_as k (ask.Order order.Publish) = item_with k (only_kind PUBLISH) 0 0
item_as k (ask.Read reader m) = item_with k (only_kind READ) reader (number_of_majority m)
