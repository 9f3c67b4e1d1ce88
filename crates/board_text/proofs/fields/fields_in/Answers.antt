use Rattle.std.proofs.Common.{arith}
use Rattle.board_text.proofs.FieldFacts.{no-field, one-field, two-fields, three-fields, four-fields}
use Rattle.board_text.proofs.fields.fields_in.Goals as goal

pub returns-in_default : goal.returns-in_default
returns-in_default c = no-field _ c.in_default.ensures.value

pub returns-in_default-get : goal.returns-in_default-get
returns-in_default-get c = one-field _ _ c.in-Some.ensures.value c.in_default-get.ensures.value

pub returns-in_default-get-2 : goal.returns-in_default-get-2
returns-in_default-get-2 c = two-fields _ _ _ c.in-Some.ensures.value c.in-Some-get.ensures.value c.in_default-get-2.ensures.value

pub returns-in_default-get-3 : goal.returns-in_default-get-3
returns-in_default-get-3 c = three-fields _ _ _ _ c.in-Some.ensures.value c.in-Some-get.ensures.value c.in-Some-get-2.ensures.value c.in_default-get-3.ensures.value

pub returns : goal.returns
returns c = four-fields _ _ _ _ _ c.in-Some.ensures.value c.in-Some-get.ensures.value c.in-Some-get-2.ensures.value c.in-Some-get-3.ensures.value (omega arith)
