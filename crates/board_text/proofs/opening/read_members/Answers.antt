use Rattle.std.proofs.Common.{rules, ◌≡◌, ◌≢◌, ◌∷◌, ◌++◌, ◌+◌, ◌-◌, ℕ, suc, [], length, sym, ap, ◌∙◌, arith}
use Rattle.council_core.specs.Rolls.{Opening}
use Rattle.council_core.specs.declared.limits.TheConstants.{MAX_MEMBERS}
use Rattle.std.proofs.lemmas.List.{length-append}
use Rattle.std.proofs.lemmas.Result.{err_from_is_err_and}
use Rattle.csv.specs.Records.{fields_of}
use Rattle.board_text.proofs.OpeningFacts.{opening-bad, opening-ends, opening-full, opening-mark, opening-member, opening-starts, opening_after}
use Rattle.board_text.specs.Text.{members_before}
use Rattle.board_text.proofs.MemberFacts.{before-bad, before-ends, before-full, before-mark, before-member, front-broken, front-memory, members-start, members_after}
use Rattle.board_text.proofs.opening.read_members.Goals as goal

pub records-init : goal.records-init
records-init c = record {
  same = opening-starts c.args.script.now ∙ ap (λ (ms : Opening). opening_after ms (MAX_MEMBERS - length ms) 2 c.args.script.now) (sym c.requires.none);
  front = members-start c.args.script.now ∙ ap (λ (ms : Opening). members_after ms (MAX_MEMBERS - length ms) c.args.script.now) (sym c.requires.none);
  bound = omega (arith, ap length c.requires.none);
  numbers = omega arith;
  short = c.requires.short;
}

pub returns-in_err-next-clause-members : goal.returns-in_err-next-clause-members
returns-in_err-next-clause-members c =
    let p = err_from_is_err_and c.from_residual.result c.from_residual.ensures.1 in
    rw p.1 (front-broken c.in_err-next.field-0.0 p.0 c.records.members.items _ c.records.script (members_before c.args.script.now) c.in_err-next.ensures.causes p.2 c.records.invariant.front)

pub returns-then-not-branch-clause-fault : goal.returns-then-not-branch-clause-fault
returns-then-not-branch-clause-fault c =
    let none : c.records.script ≡ [] = rw c.if-not-branch.true at c.in_ok-next.ensures.read in
    rw c.at.ensures.same (c.records.invariant.same ∙ opening-ends c.records.members.items _ c.records.number c.records.script none)

pub returns-then-not-branch-clause-members : goal.returns-then-not-branch-clause-members
returns-then-not-branch-clause-members c =
    let none : c.records.script ≡ [] = rw c.if-not-branch.true at c.in_ok-next.ensures.read in
    rw c.at.ensures.same (sym (c.records.invariant.front ∙ before-ends c.records.members.items _ c.records.script none))

pub returns-then-is_mark_row-clause-preamble : goal.returns-then-is_mark_row-clause-preamble
returns-then-is_mark_row-clause-preamble c =
    let next : c.records.script ≡ fields_of c.next.new.row ∷ c.next.new.self = rw c.if-not-branch.false at c.in_ok-next.ensures.read in
    c.records.invariant.same ∙ opening-mark c.records.members.items _ c.records.number c.records.script _ _ next (sym c.if-is_mark_row.ensures)

pub returns-then-is_mark_row-clause-members : goal.returns-then-is_mark_row-clause-members
returns-then-is_mark_row-clause-members c =
    let next : c.records.script ≡ fields_of c.next.new.row ∷ c.next.new.self = rw c.if-not-branch.false at c.in_ok-next.ensures.read in
    sym (c.records.invariant.front ∙ before-mark c.records.members.items _ c.records.script _ _ next (sym c.if-is_mark_row.ensures))

pub returns-then-len-eq-MAX_MEMBERS-clause-fault : goal.returns-then-len-eq-MAX_MEMBERS-clause-fault
returns-then-len-eq-MAX_MEMBERS-clause-fault c =
    let next : c.records.script ≡ fields_of c.next.new.row ∷ c.next.new.self = rw c.if-not-branch.false at c.in_ok-next.ensures.read in
    let long : c.len.result ≡ length c.records.members.items = search rules in
    let room : ℕ = MAX_MEMBERS - length c.records.members.items in
    rw c.at-then-len-eq-MAX_MEMBERS.ensures.same (c.records.invariant.same
    ∙ opening-full c.records.members.items room c.records.number c.records.script _ _ next (sym c.if-is_mark_row.ensures) (omega (arith, sym long ∙ c.if-len-eq-MAX_MEMBERS.true)))

pub returns-then-len-eq-MAX_MEMBERS-clause-members : goal.returns-then-len-eq-MAX_MEMBERS-clause-members
returns-then-len-eq-MAX_MEMBERS-clause-members c =
    let next : c.records.script ≡ fields_of c.next.new.row ∷ c.next.new.self = rw c.if-not-branch.false at c.in_ok-next.ensures.read in
    let long : c.len.result ≡ length c.records.members.items = search rules in
    let room : ℕ = MAX_MEMBERS - length c.records.members.items in
    rw c.at-then-len-eq-MAX_MEMBERS.ensures.same (sym (c.records.invariant.front
    ∙ before-full c.records.members.items room c.records.script _ _ next (omega (arith, sym long ∙ c.if-len-eq-MAX_MEMBERS.true))))

pub returns-in_default-clause-fault : goal.returns-in_default-clause-fault
returns-in_default-clause-fault c =
    let next : c.records.script ≡ fields_of c.next.new.row ∷ c.next.new.self = rw c.if-not-branch.false at c.in_ok-next.ensures.read in
    let long : c.len.result ≡ length c.records.members.items = search rules in
    let not_full : length c.records.members.items ≢ MAX_MEMBERS = λ e. c.if-len-eq-MAX_MEMBERS.false (long ∙ e) in
    let room : ℕ = MAX_MEMBERS - length c.records.members.items in
    rw c.at-in_default.ensures.same (c.records.invariant.same
    ∙ opening-bad c.records.members.items room c.records.number c.records.script _ _ next (room - 1) (sym c.if-is_mark_row.ensures) (omega (arith, not_full, c.records.invariant.bound)) (sym c.in_default.ensures))

pub returns-in_default-clause-members : goal.returns-in_default-clause-members
returns-in_default-clause-members c =
    let next : c.records.script ≡ fields_of c.next.new.row ∷ c.next.new.self = rw c.if-not-branch.false at c.in_ok-next.ensures.read in
    let long : c.len.result ≡ length c.records.members.items = search rules in
    let not_full : length c.records.members.items ≢ MAX_MEMBERS = λ e. c.if-len-eq-MAX_MEMBERS.false (long ∙ e) in
    let room : ℕ = MAX_MEMBERS - length c.records.members.items in
    rw c.at-in_default.ensures.same (sym (c.records.invariant.front
    ∙ before-bad c.records.members.items room c.records.script _ _ next (room - 1) (sym c.if-is_mark_row.ensures) (omega (arith, not_full, c.records.invariant.bound)) (sym c.in_default.ensures)))

pub returns-in_err-push-clause-members : goal.returns-in_err-push-clause-members
returns-in_err-push-clause-members c =
    let p = err_from_is_err_and c.from_residual-in_err-push.result c.from_residual-in_err-push.ensures.1 in
    rw (p.1, c.in_err-push.ensures.items) (front-memory p.0 c.records.members.items _ c.records.script (members_before c.args.script.now) p.2 c.records.invariant.front)

pub records-preserved : goal.records-preserved
records-preserved c =
    let next : c.records.script ≡ fields_of c.next.new.row ∷ c.next.new.self = rw c.if-not-branch.false at c.in_ok-next.ensures.read in
    let fewer = ap length next in
    let long : c.len.result ≡ length c.records.members.items = search rules in
    let not_full : length c.records.members.items ≢ MAX_MEMBERS = λ e. c.if-len-eq-MAX_MEMBERS.false (long ∙ e) in
    let pushed = c.in_ok-push.ensures.items in
    let pushed_members = c.records.members.items ++ c.in-Some.member ∷ [] in
    let room : ℕ = MAX_MEMBERS - length c.records.members.items in
    let left : ℕ = MAX_MEMBERS - length pushed_members in
    let more : room ≡ suc left = omega (arith, length-append c.records.members.items (c.in-Some.member ∷ []), c.records.invariant.bound, not_full) in
    let whole = opening-member c.records.members.items room c.records.number c.records.script _ _ next left (sym c.if-is_mark_row.ensures) more c.in-Some.member (sym c.in-Some.ensures) in
    let front = before-member c.records.members.items room c.records.script _ _ next left (sym c.if-is_mark_row.ensures) more c.in-Some.member (sym c.in-Some.ensures) in
    record {
      same = c.records.invariant.same ∙ whole ∙ ap (λ (ms : Opening). opening_after ms (MAX_MEMBERS - length ms) (c.records.number + 1) c.next.new.self) (sym pushed);
      front = c.records.invariant.front ∙ front ∙ ap (λ (ms : Opening). members_after ms (MAX_MEMBERS - length ms) c.next.new.self) (sym pushed);
      bound = let now = ap length pushed in let more = length-append c.records.members.items (c.in-Some.member ∷ []) in
          omega (arith, now, more, c.records.invariant.bound, not_full);
      numbers = omega arith;
      short = c.records.invariant.short;
    }
