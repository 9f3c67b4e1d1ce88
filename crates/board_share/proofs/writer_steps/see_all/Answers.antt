use Rattle.board_share.proofs.Names.{add-one, all_true, ap, arith, Bool, Busy, cond, due_at, eq-eqb, false, Filling}
use Rattle.board_share.proofs.Names.{held_by, Idle, length, length-set, List, look_count, ne_eqb, Publishing, refl}
use Rattle.board_share.proofs.Names.{same_Some, Seeing, seeing_phase, set, slice_get, Some, subst, suc, sym, take, true}
use Rattle.board_share.proofs.Names.{true≢false, not_quiescent, WriterTook, ℕ, ◌+◌, ◌-◌, ◌∙◌, ◌≡◌}
use Rattle.std.proofs.lemmas.List.{take_all}
use Rattle.two_copy_steps.specs.Actions.{pin}
use Rattle.board_share.specs.Writers.{publishing_view}
use Rattle.two_copy_steps.proofs.Face.{set_stays}
use Rattle.board_share.proofs.Publications.{first_at, one_more_out, one_set_out, all_there, unseen_set, none_unseen, seeing_at, may, becomes, looked_in, looked_out}
use Rattle.board_share.proofs.writer_steps.see_all.Goals as goal

pub loop-r-preserved-then-get : goal.loop-r-preserved-then-get
loop-r-preserved-then-get c =
    let i = c.loop-r.invariant in
    record {
      table = i.table;
      publishing = i.publishing;
      unseen_less = i.unseen_less;
      stays = i.stays;
      count = i.count;
      first = subst (λ (n : ℕ). all_true (take n c.loop-r.seen_out) ≡ true) (sym (add-one c.loop-r.r))
          (one_more_out c.loop-r.seen_out c.loop-r.r c.if-get.ensures.same i.first);
    }

pub load_pin-requires-clause-may : goal.load_pin-requires-clause-may
load_pin-requires-clause-may c =
    let i = c.loop-r.invariant in
    let h = c.requires.writer.1 in
    let within = h.within in
    let below = c.loop-r-test.true in
    let end = c.len-r-end.ensures.number in
    may _ _ _ _ _ Seeing (seeing_at _ _ _ _ _ _ i.publishing c.if-get.ensures.same i.first)
    (due_at c.loop-r.seat.me c.args.register.now.journal) refl _ _ _ (i.table ∙ h.same) (omega arith)
    (ap pin (sym (first_at c.loop-r.seen_out c.loop-r.r c.if-get.ensures.same i.first).0))

pub load_pin-requires-clause-becomes : goal.load_pin-requires-clause-becomes
load_pin-requires-clause-becomes c =
    let i = c.loop-r.invariant in
    becomes _ _ _ _ _ Seeing (seeing_at _ _ _ _ _ _ i.publishing c.if-get.ensures.same i.first)
    (due_at c.loop-r.seat.me c.args.register.now.journal) refl (λ n. n) (λ n. refl)

pub returns-then-load_pin-ne0-clause-sure : goal.returns-then-load_pin-ne0-clause-sure
returns-then-load_pin-ne0-clause-sure c all =
    let below = c.loop-r-test.true in
    let end = c.len-r-end.ensures.number in
    let there = c.loop-r.invariant.stays c.loop-r.r (all_there c.args.seen_out.now c.loop-r.r all (omega arith)) in
    absurd (true≢false (same_Some true false (sym there ∙ c.if-get.ensures.same)))

pub returns-then-load_pin-ne0-clause-blocking : goal.returns-then-load_pin-ne0-clause-blocking
returns-then-load_pin-ne0-clause-blocking c =
    let i = c.loop-r.invariant in
    let f = first_at c.loop-r.seen_out c.loop-r.r c.if-get.ensures.same i.first in
    let reader = ap suc f.0 ∙ sym (add-one c.loop-r.r) in
    record {
      took = subst
          (λ (n : ℕ). WriterTook c.args.register.now c.args.seat.now.me c.load_pin.new.seat.me
          (look_count c.args.seen_out.now c.loop-r.seen_out)
          (publishing_view (held_by c.args.seat.now.me.0) c.args.register.now.journal c.loop-r.seen_out Idle)
          (Busy n))
          reader
          (looked_in _ _ _ _ _ (seeing_at _ _ _ _ _ _ i.publishing c.if-get.ensures.same i.first)
          (due_at c.loop-r.seat.me c.args.register.now.journal) refl _ _ _ _ c.load_pin.ensures.step
          (ne_eqb c.load_pin.result 0 c.if-load_pin-ne0.true));
      stay = i.stays;
      named = (sym reader, f.1);
    }

pub loop-r-preserved : goal.loop-r-preserved
loop-r-preserved c =
    let i = c.loop-r.invariant in
    let step = c.load_pin.ensures.step in
    let f = first_at c.loop-r.seen_out c.loop-r.r c.if-get.ensures.same i.first in
    let out = sym c.set.ensures in
    let below = c.loop-r-test.true in
    let end = c.len-r-end.ensures.number in
    let count = i.count in
    let was = i.unseen_less in
    let less = unseen_set c.loop-r.seen_out c.loop-r.r c.if-get.ensures.same in
    let now : not_quiescent c.set.new.self ≡ not_quiescent (set c.loop-r.seen_out c.loop-r.r true) =
    ap not_quiescent c.set.ensures in
    let n : (not_quiescent c.args.seen_out.now - not_quiescent c.loop-r.seen_out) + 1
    ≡ not_quiescent c.args.seen_out.now - not_quiescent c.set.new.self = omega arith in
    record {
      table = step.same ∙ i.table;
      publishing = subst (λ (k : ℕ). Publishing c.args.register.now c.args.seat.now.me c.load_pin.new.seat.me k
          c.set.new.self (seeing_phase c.set.new.self)) n
          (looked_out _ _ _ _ _ (seeing_at _ _ _ _ _ _ i.publishing c.if-get.ensures.same i.first)
          (due_at c.loop-r.seat.me c.args.register.now.journal) refl _ _ _ _ step c.set.new.self
          (eq-eqb c.load_pin.result 0 c.if-load_pin-ne0.false)
          (ap (λ (r : ℕ). set c.loop-r.seen_out r true) f.0 ∙ out));
      unseen_less = omega arith;
      stays = λ q h. subst (λ (o : List Bool). slice_get o q ≡ Some true) out
          (set_stays c.loop-r.seen_out c.loop-r.r q (i.stays q h));
      count = ap (length {A = Bool}) c.set.ensures ∙ (length-set c.loop-r.seen_out c.loop-r.r true ∙ count);
      first = subst (λ (k : ℕ). all_true (take k c.set.new.self) ≡ true) (sym (add-one c.loop-r.r))
          (subst (λ (o : List Bool). all_true (take (suc c.loop-r.r) o) ≡ true) out
          (one_set_out c.loop-r.seen_out c.loop-r.r (omega arith) i.first));
    }

pub returns-clause-out : goal.returns-clause-out
returns-clause-out c =
    let i = c.loop-r.invariant in
    let past = c.loop-r-test.false in
    let end = c.len-r-end.ensures.number in
    let count = i.count in
    let whole : c.loop-r.seen_out ≡ take c.loop-r.r c.loop-r.seen_out =
    sym (take_all c.loop-r.r c.loop-r.seen_out (omega arith)) in
    let all : all_true c.loop-r.seen_out ≡ true = ap all_true whole ∙ i.first in
    let none = none_unseen c.loop-r.seen_out all in
    let n : not_quiescent c.args.seen_out.now - not_quiescent c.loop-r.seen_out ≡ not_quiescent c.args.seen_out.now =
    omega arith in
    subst (λ (k : ℕ). Publishing c.args.register.now c.args.seat.now.me c.loop-r.seat.me k c.loop-r.seen_out
    (Filling 0)) n
    (subst (λ (b : Bool). Publishing c.args.register.now c.args.seat.now.me c.loop-r.seat.me
    (not_quiescent c.args.seen_out.now - not_quiescent c.loop-r.seen_out) c.loop-r.seen_out
    (cond b (Filling 0) Seeing)) all i.publishing)
