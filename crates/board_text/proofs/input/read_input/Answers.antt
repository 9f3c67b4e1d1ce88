use Rattle.std.proofs.Common.{rules, ◌<◌, ◌+◌, Some, length}
use Rattle.board_text.specs.Inputs.{Reads}
use Rattle.board_text.proofs.InputFacts.{ended-by, longer}
use Rattle.board_text.proofs.input.read_input.Goals as goal

pub returns-in-Some-eq0-clause-whole : goal.returns-in-Some-eq0-clause-whole
returns-in-Some-eq0-clause-whole g c =
    let read : Reads c.loop-turn.input c.read_some.new.input c.loop-turn.interrupted c.read_some.new.interrupted c.read_some.new.piece (Some c.in-Some-eq0.field-0) = rw c.in-Some-eq0.is at c.in_ok-read_some.ensures.read in
    let room : 0 < length c.read_some.new.piece = search rules in
    λ bytes is. ended-by c.args.input.now c.loop-turn.input c.read_some.new.input c.loop-turn.text.items c.read_some.new.piece c.in-Some-eq0.field-0 c.in-Some-eq0.field-0-test c.loop-turn.invariant.so_far read.2 (read.3 c.in-Some-eq0.field-0-test room) bytes is

pub returns-then-n-len-clause-too_long : goal.returns-then-n-len-clause-too_long
returns-then-n-len-clause-too_long g c =
    let read : Reads c.loop-turn.input c.read_some.new.input c.loop-turn.interrupted c.read_some.new.interrupted c.read_some.new.piece (Some c.in-Some.n) = rw c.in-Some.is at c.in_ok-read_some.ensures.read in
    let long : 4194304 < length c.loop-turn.text.items + c.in-Some.n = search rules in
    λ same bytes is. longer c.args.input.now c.loop-turn.input c.read_some.new.input c.loop-turn.text.items c.read_some.new.piece bytes c.in-Some.n c.loop-turn.invariant.so_far read.2 read.1 long is
