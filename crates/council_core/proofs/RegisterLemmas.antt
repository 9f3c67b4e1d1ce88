-- What the calls of a register need of what it keeps, and how they keep it.
use Rattle.std.proofs.Common.{◌≡◌, ℕ, ◌+◌, ◌^◌, ◌<◌, ◌≤◌, ◌==◌, true, false, cond, List, [], ◌∷◌, length, Some, Result, Ok, Err, sym, ◌∙◌, ap, subst, refl, arith, All, slice_index, if◌then◌else◌, is_ok, take, get_or, true≢false}
use Rattle.std.specs.Prelude.{⊤}
use Rattle.std.specs.List.{AllByRecursion}
use Rattle.std.specs.Result.{result_and}
use borrow.Author.Tests.{eqb-false}
use Rattle.std.proofs.lemmas.Bool.{ne_eqb}
use Rattle.std.proofs.lemmas.List.{length-take}
use Rattle.std.proofs.lemmas.List.Elements.{All-from_recursion, recursion_from_All}
use Rattle.std.proofs.lemmas.List.Sums.{sum_by-le, sum_by-le-sum_by}
use Rattle.council_core.specs.declared.changes.Change.{Change}
use Rattle.council_core.specs.declared.changes.Change.TheVariants as change
use Rattle.council_core.specs.declared.commands.Command.{Command}
use Rattle.council_core.specs.declared.commands.Standing.{Standing}
use Rattle.council_core.specs.declared.refusals.Refusal.{Refusal}
use Rattle.council_core.specs.declared.refusals.Refusal.TheVariants.{JournalFull}
use Rattle.council_core.specs.Rolls.{Roll, RollEntry, standing_among, sits_in, effective_votes, votes_in, weight, total, is_open, step, step, all_accepted, opening_roll}
use Rattle.council_core.specs.Ledgers.{Ledger, roll_of, room_of, verdict_of, ledger_as_of}
use Rattle.council_core.specs.Registers.{IsPlanned, members_in_chair, sits_as}
use Rattle.council_core.proofs.RollLemmas.{part_of_sum, accepted-at}
use Rattle.council_core.proofs.MirrorLemmas.{Kept, IsMirror, seat_is_free}

below : (a b : ℕ) → (a ≡ b → ⊥) → a ≤ b → a < b
below a b h k = omega (arith, h, k)

-- room is what the test says
pub room_is : (l : Ledger) → room_of l ≡ Ok tt → length l.journal ≤ l.limit → length l.journal < l.limit
room_is l h within =
    elim (length l.journal == l.limit) as (λ b. (length l.journal == l.limit) ≡ b → (if b then Err JournalFull else Ok tt) ≡ Ok tt → length l.journal < l.limit)
    [ true ↦ λ e (q : ◌≡◌ {A = Result ⊤ Refusal} (Err JournalFull) (Ok tt)). absurd (cc) | false ↦ λ e q. below _ _ (eqb-false _ _ e) within ] refl h

-- what the weights are bounded by
pub counted_small : (s : Standing) → s.votes ≤ 2 ^ 40 → effective_votes s ≤ 2 ^ 40
counted_small s h = elim s.suspended as (λ b. cond b 0 s.votes ≤ 2 ^ 40) [ true ↦ omega arith | false ↦ h ]

all_counted : (es : List RollEntry) → AllByRecursion (λ m. m.1.votes ≤ 2 ^ 40) es → AllByRecursion (λ m. effective_votes m.1 ≤ 2 ^ 40) es
all_counted [] h = tt
all_counted (e ∷ es) h = (counted_small e.1 h.0, all_counted es h.1)

votes_in-le : (c : ℕ) (s : Standing) → votes_in c s ≤ effective_votes s
votes_in-le c s = elim (sits_in c s) as (λ b. cond b (effective_votes s) 0 ≤ effective_votes s) [ true ↦ omega arith | false ↦ omega arith ]

sits_as-le : (c : ℕ) (s : Standing) → sits_as c s ≤ 1
sits_as-le c s = elim (sits_in c s) as (λ b. cond b 1 0 ≤ 1) [ true ↦ omega arith | false ↦ omega arith ]

all_sits : (c : ℕ) (es : List RollEntry) → AllByRecursion (λ m. sits_as c m.1 ≤ 1) es
all_sits c [] = tt
all_sits c (e ∷ es) = (sits_as-le c e.1, all_sits c es)

-- all votes together
pub total_within : (roll : Roll) → length roll.members ≤ 256 → All (λ m. m.1.votes ≤ 2 ^ 40) roll.members → total roll ≤ 2 ^ 48
total_within roll bound small =
    let most = sum_by-le (λ (m : RollEntry). effective_votes m.1) (2 ^ 40) roll.members (All-from_recursion _ _ (all_counted roll.members (recursion_from_All _ _ small))) in
    omega (arith, most, bound)

-- a chair weighs no more than all members
pub weight_within : (roll : Roll) (c : ℕ) → weight roll c ≤ total roll
weight_within roll c = sum_by-le-sum_by (λ (m : RollEntry). votes_in c m.1) (λ (m : RollEntry). effective_votes m.1) roll.members (λ e. votes_in-le c e.1)

module _ (roll : Roll) (kept : Kept) (m : IsMirror roll kept) where
  pub total_small : total roll ≤ 2 ^ 48
  total_small =
      total_within roll
      (subst (λ (l : List RollEntry). length l ≤ 256) m.same_members m.bound)
      (subst (λ (l : List RollEntry). All (λ m. m.1.votes ≤ 2 ^ 40) l) m.same_members m.small)

  pub weight_small : (c : ℕ) → weight roll c ≤ total roll
  weight_small c = weight_within roll c

  pub seated_small : (c : ℕ) → members_in_chair roll.members c ≤ 256
  seated_small c =
      let most = sum_by-le (λ (m : RollEntry). sits_as c m.1) 1 roll.members (All-from_recursion _ _ (all_sits c roll.members)) in
      let bound : length roll.members ≤ 256 = subst (λ (l : List RollEntry). length l ≤ 256) m.same_members m.bound in
      omega (arith, most, bound)

  pub word_small : (k : ℕ) → k < 32 → slice_index kept.totals.words k ≤ 2 ^ 48 + 1
  word_small k h =
      elim (is_open roll (k + 1)) as (λ b. slice_index kept.totals.words k ≡ cond b (weight roll (k + 1) + 1) 0 → slice_index kept.totals.words k ≤ 2 ^ 48 + 1)
      [ true ↦ λ e. omega (arith, e, weight_small (k + 1), total_small) | false ↦ λ e. omega (arith, e) ] (m.each_word k h)

  -- a member's part can be subtracted
  module _ (code : List ℕ) (old : Standing) (found : standing_among code roll.members ≡ Some old) where
    pub word_holds : (k : ℕ) → k < 32 → votes_in (k + 1) old ≤ slice_index kept.totals.words k
    word_holds k h =
        elim (is_open roll (k + 1)) as (λ b. is_open roll (k + 1) ≡ b → slice_index kept.totals.words k ≡ cond b (weight roll (k + 1) + 1) 0 → votes_in (k + 1) old ≤ slice_index kept.totals.words k) [
          | true ↦ λ p e. omega (arith, e, part_of_sum code (votes_in (k + 1)) roll.members old found)
          | false ↦ λ p e.
              let none : votes_in (k + 1) old ≡ 0 = ap (λ b. cond b (effective_votes old) 0) (seat_is_free (k + 1) roll code old found (m.closed_empty (k + 1) p)) in
              omega (arith, e, none)
        ] refl (m.each_word k h)

    pub count_holds : (k : ℕ) → k < 32 → sits_as (k + 1) old ≤ slice_index kept.totals.counts k
    count_holds k h = omega (arith, m.each_count k h, part_of_sum code (sits_as (k + 1)) roll.members old found)

    pub total_holds : effective_votes old ≤ kept.totals.total
    total_holds = omega (arith, m.same_total, part_of_sum code effective_votes roll.members old found)

  -- and there is room for a new one in its place
  module _ (old new : Standing) (small : new.votes ≤ 2 ^ 40) where
    pub word_fits : (k word : ℕ) → k < 32 → word + votes_in (k + 1) old ≡ slice_index kept.totals.words k → word + votes_in (k + 1) new < 2 ^ 64
    word_fits k word h e = omega (arith, e, word_small k h, votes_in-le (k + 1) new, counted_small new small)

    pub count_fits : (k count : ℕ) → k < 32 → count + sits_as (k + 1) old ≡ slice_index kept.totals.counts k → count + 1 < 2 ^ 16
    count_fits k count h e = omega (arith, e, m.each_count k h, seated_small (k + 1))

    pub total_fits : (rest : ℕ) → rest + effective_votes old ≡ kept.totals.total → rest + effective_votes new < 2 ^ 64
    total_fits rest e = omega (arith, e, m.same_total, total_small, counted_small new small)

-- a plan, said of the fields of a register in place of its view, and of the change in place of its match
pub planned_as : (l v : Ledger) (command : Command) (x y : Change) → l ≡ v → x ≡ y → IsPlanned (roll_of v) command x → IsPlanned (roll_of l) command y
planned_as l v command x y same is planned =
    subst (λ (z : Change). IsPlanned (roll_of l) command z) is (subst (λ (u : Ledger). IsPlanned (roll_of u) command x) (sym same) planned)

-- a planned command is accepted
pub planned_ok : (roll : Roll) (command : Command) (change : Change) → IsPlanned roll command change → is_ok (step roll command) ≡ true
planned_ok roll command (change.Open chair) p = ap is_ok p.effect
planned_ok roll command (change.Close chair) p = ap is_ok p.effect
planned_ok roll command (change.Update index old new) p = ap is_ok p.2.effect
planned_ok roll command (change.Enter code votes) p = ap is_ok p.effect
planned_ok roll command (change.Remove index old) p = ap is_ok p.2.effect

verdict_ok : (stepped : Result Roll Refusal) (room : Result ⊤ Refusal) → is_ok stepped ≡ true → result_and stepped room ≡ room
verdict_ok (Ok r) room h = refl
verdict_ok (Err e) room h = absurd (true≢false (sym h))

-- each command of a journal is accepted after those before it
pub accepted_again : (l : Ledger) (i : ℕ) (c : Command) → all_accepted (opening_roll l.opening) l.journal ≡ true → length l.journal ≤ l.limit
    → i < length l.journal → c ≡ get_or l.journal i c → verdict_of (ledger_as_of l i) c ≡ Ok tt
accepted_again l i c legal within at is =
    let taken : length (take i l.journal) ≡ i = omega (arith, length-take i l.journal) in
    let room : room_of (ledger_as_of l i) ≡ Ok tt = rw (ne_eqb (length (take i l.journal)) l.limit (λ e. omega (arith, e, taken))) refl in
    verdict_ok _ _ (accepted-at (opening_roll l.opening) l.journal i c legal at is) ∙ room
