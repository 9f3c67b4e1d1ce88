-- A walk's steps, and that two walks from its ends meet.
use Rattle.std.proofs.Common.{◌≡◌, ℕ, ◌+◌, ◌-◌, ◌*◌, ◌<◌, ◌≤◌, Bool, true, false, cond, not, List, length, take, drop, get_or, arith, sym, ap, subst, inl, inr, ◌∙◌, ltb}
use Rattle.std.specs.Prelude.{◌&&◌, ◌||◌, nat_le}
use Rattle.std.specs.List.{count_by}
use Rattle.std.specs.List.Sorted.{IsNonDecreasingBy}
use Rattle.std.specs.Int.{bit_at}
use Rattle.std.proofs.lemmas.Bool.{cases_lt, lt-ltb, le-ltb, ltb-true, leb-true, leb-false, and_parts, or_parts}
use Rattle.std.proofs.lemmas.List.{length-take, length-drop, get_or-take, get_or-drop, get_or_default}
use Rattle.std.proofs.lemmas.List.Sums.{sum_by-drop_more, sum_by-take-drop}
use Rattle.half_sums.specs.declared.entry.Entry.{Entry}
use Rattle.half_sums.specs.Entries.{zero_entry}
use Rattle.half_sums.specs.Entries.{entry_at}
use Rattle.swing_walk.specs.Pairs.{pairs_where, with_slot}
use Rattle.swing_walk.specs.Sizes.{partners_next}
use Rattle.swing_walk.specs.Walks.{IsBetween, IsPassed, HasCredited, PartnerCounts, StandsAt, wins_on, position_after, turned_route, votes_at}
use Rattle.swing_walk.specs.Tallies.{slot_amount, tally_total, CreditsEach}
use Rattle.swing_walk.specs.Sides.{tally_at}
use Rattle.swing_walk.specs.declared.positions.Next.{Next}
use Rattle.swing_walk.specs.declared.positions.Position.{Position}
use Rattle.swing_walk.specs.declared.positions.Route.{Route}
use Rattle.swing_walk.specs.declared.tally.MaskTally.{MaskTally}
use Rattle.swing_walk.proofs.Counting.{Splits, pairs_more}
use Rattle.swing_walk.proofs.WinningPairs.{count_winning, count_slot}

-- an entry's sum, at any default
sum_default : (es : List Entry) (i : ℕ) (d e : Entry) → i < length es → (get_or es i d).sum ≡ (get_or es i e).sum
sum_default es i d e h = ap (λ (x : Entry). x.sum) (get_or_default es i d e h)

-- a step comes to the next position, and adds the partners of the entry that it passes, also at each of that entry's slots
record Rises (next : Next) (route : Route) (position : Position) : Type 0 where
  pub between : IsBetween route (record { up = position.up + 1; rest = position.rest })
  pub total : pairs_where (wins_on route) (take (position.up + 1) route.rising) route.falling ≡ pairs_where (wins_on route) (take position.up route.rising) route.falling + partners_next false next route position
  pub marks : (slot : ℕ) → pairs_where (with_slot slot (wins_on route)) (take (position.up + 1) route.rising) route.falling
      ≡ pairs_where (with_slot slot (wins_on route)) (take position.up route.rising) route.falling + bit_at next.low.mask slot * partners_next false next route position

record Falls (next : Next) (route : Route) (position : Position) : Type 0 where
  pub between : IsBetween route (record { up = position.up; rest = position.rest - 1 })
  pub total : pairs_where (wins_on route) (drop (position.rest - 1) route.falling) route.rising ≡ pairs_where (wins_on route) (drop position.rest route.falling) route.rising + partners_next true next route position
  pub marks : (slot : ℕ) → pairs_where (with_slot slot (wins_on route)) (drop (position.rest - 1) route.falling) route.rising
      ≡ pairs_where (with_slot slot (wins_on route)) (drop position.rest route.falling) route.rising + bit_at next.high.mask slot * partners_next true next route position

module _ (next : Next) (route : Route) (position : Position) (b : IsBetween route position) where
  ups : IsNonDecreasingBy (λ e. e.sum) route.rising
  ups = route.rising_half.ascending

  downs : IsNonDecreasingBy (λ e. e.sum) route.falling
  downs = route.falling_half.ascending

  -- the rising entry falls short with all falling ones but those that are passed
  rising_splits : IsPassed false next route position → Splits route.quota (entry_at route.rising position.up).sum position.rest route.falling
  rising_splits is = record {
    within = b.rest_in;
    short = λ k d h.
        let below : k < position.rest = omega (arith, length-take position.rest route.falling) in
        rw (get_or-take position.rest route.falling k d below) (omega (arith, is.2 (omega arith), downs k (position.rest - 1) zero_entry (omega arith) (omega (arith, b.rest_in)), sum_default route.falling k d zero_entry (omega (arith, b.rest_in))));
    reached = λ k d h.
        let within : position.rest + k < length route.falling = omega (arith, length-drop position.rest route.falling) in
        rw (get_or-drop position.rest route.falling k d) (omega (arith, b.reached position.up (position.rest + k) (omega arith) is.0 (omega arith) within, sum_default route.falling (position.rest + k) d zero_entry within));
  }

  -- the falling entry reaches with all rising ones but those that are passed
  falling_splits : IsPassed true next route position → Splits route.quota (entry_at route.falling (position.rest - 1)).sum position.up route.rising
  falling_splits is = record {
    within = b.up_in;
    short = λ k d h.
        let before : k < position.up = omega (arith, length-take position.up route.rising) in
        rw (get_or-take position.up route.rising k d before) (omega (arith, b.short k (position.rest - 1) before (omega (arith, is.0)), sum_default route.rising k d zero_entry (omega (arith, b.up_in))));
    reached = λ k d h.
        let within : position.up + k < length route.rising = omega (arith, length-drop position.up route.rising) in
        rw (get_or-drop position.up route.rising k d) (omega (arith, is.2 (omega arith), ups position.up (position.up + k) zero_entry (omega arith) within, sum_default route.rising (position.up + k) d zero_entry within));
  }

  rises : IsPassed false next route position → Rises next route position
  rises is =
      let partners : count_by (wins_on route next.low) route.falling ≡ partners_next false next route position =
      count_winning route.quota route.least_size position.rest next.low route.falling (subst (λ (e : Entry). Splits route.quota e.sum position.rest route.falling) (sym is.1) (rising_splits is)) in
      let more : (test : Entry → Entry → Bool) → pairs_where test (take (position.up + 1) route.rising) route.falling ≡ pairs_where test (take position.up route.rising) route.falling + count_by (test next.low) route.falling =
      λ test. rw is.1 (pairs_more test route.rising route.falling position.up zero_entry is.0) in
      record {
        between = record {
          up_in = omega (arith, is.0);
          rest_in = b.rest_in;
          short = λ k m before below. omega (arith, is.2 (omega arith), ups k position.up zero_entry (omega arith) is.0, downs m (position.rest - 1) zero_entry (omega arith) (omega (arith, b.rest_in)));
          reached = λ k m from. b.reached k m (omega arith);
        };
        total = omega (arith, more (wins_on route), partners);
        marks = λ slot. omega (arith, more (with_slot slot (wins_on route)), count_slot (wins_on route next.low) slot next.low route.falling, ap (λ n. bit_at next.low.mask slot * n) partners);
      }

  falls_at : IsPassed true next route position → Falls next route position
  falls_at is =
      let last : ℕ = position.rest - 1 in
      let behind : last + 1 ≡ position.rest = omega (arith, is.0) in
      let within : last < length route.falling = omega (arith, is.0, b.rest_in) in
      let partners : count_by (wins_on route next.high) route.rising ≡ partners_next true next route position =
      count_winning route.quota route.least_size position.up next.high route.rising (subst (λ (e : Entry). Splits route.quota e.sum position.up route.rising) (sym is.1) (falling_splits is)) in
      let more : (test : Entry → Entry → Bool) → pairs_where test (drop last route.falling) route.rising ≡ pairs_where test (drop position.rest route.falling) route.rising + count_by (test next.high) route.rising =
      λ test. omega (arith, sum_by-drop_more (λ e. count_by (test e) route.rising) route.falling last zero_entry within, ap (λ i. pairs_where test (drop i route.falling) route.rising) behind, ap (λ e. count_by (test e) route.rising) is.1) in
      record {
        between = record {
          up_in = b.up_in;
          rest_in = omega (arith, b.rest_in);
          short = λ k m before below. b.short k m before (omega arith);
          reached = λ k m from inside above below. elim (cases_lt m position.rest) as (λ _. route.quota ≤ votes_at route k m) [
            | inl fresh ↦ (let same : last ≡ m = omega arith in omega (arith, ap (λ i. (entry_at route.falling i).sum) same, is.2 (omega arith), ups position.up k zero_entry from inside))
            | inr passed ↦ b.reached k m from inside passed below
          ];
        };
        total = omega (arith, more (wins_on route), partners);
        marks = λ slot. omega (arith, more (with_slot slot (wins_on route)), count_slot (wins_on route next.high) slot next.high route.rising, ap (λ n. bit_at next.high.mask slot * n) partners);
      }

-- what the first entries and those from there on come to is what all do
pub both_parts : (test : Entry → Entry → Bool) (entries others : List Entry) (up rest : ℕ) → up ≡ rest →
    pairs_where test (take up entries) others + pairs_where test (drop rest entries) others ≡ pairs_where test entries others
both_parts test entries others up rest same =
    rw same (sum_by-take-drop (λ l. count_by (test l) others) entries rest)

-- a step: which entry is passed, and what the tallies of the two lists have then
pub record Pass (falls : Bool) (next : Next) (route : Route) (position : Position) (amount : ℕ) (old new : List MaskTally) : Type 0 where
  pub between : IsBetween route position
  pub is_next : IsPassed falls next route position
  pub credited : HasCredited route position old
  pub partners : amount ≡ partners_next falls next route position
  pub rising_total : tally_total (tally_at 0 new) ≡ tally_total (tally_at 0 old) + cond falls 0 amount
  pub rising_marked : (slot : ℕ) → slot_amount slot (tally_at 0 new) ≡ slot_amount slot (tally_at 0 old) + bit_at (cond falls next.high.mask next.low.mask) slot * cond falls 0 amount
  pub falling_total : tally_total (tally_at 1 new) ≡ tally_total (tally_at 1 old) + cond falls amount 0
  pub falling_marked : (slot : ℕ) → slot_amount slot (tally_at 1 new) ≡ slot_amount slot (tally_at 1 old) + bit_at (cond falls next.high.mask next.low.mask) slot * cond falls amount 0

pub record Passed (route : Route) (position : Position) (new : List MaskTally) : Type 0 where
  pub between : IsBetween route position
  pub credited : HasCredited route position new

-- where a falling entry is next, one is left
pub one_left : (falls : Bool) (next : Next) (route : Route) (position : Position) → IsPassed falls next route position → cond falls 1 0 ≤ position.rest
one_left true next route position is = omega (arith, is.0)
one_left false next route position is = omega arith

-- and each step passes one
pub one_step : (falls : Bool) (up rest : ℕ) → cond falls 1 0 ≤ rest → up + cond falls 0 1 + rest ≡ up + (rest - cond falls 1 0) + 1
one_step true up rest some = omega (arith, some)
one_step false up rest some = omega arith

-- what is known of the next entries of two lists, and of the test which of them is next
pub record Looked (falls : Bool) (next : Next) (route : Route) (position : Position) : Type 0 where
  pub within : position.up ≤ length route.rising
  pub some : position.up < length route.rising + position.rest
  pub low_is : position.up < length route.rising → next.low ≡ entry_at route.rising position.up
  pub high_is : 0 < position.rest → next.high ≡ entry_at route.falling (position.rest - 1)
  pub test : falls ≡ (not (ltb position.up (length route.rising)) || (ltb 0 position.rest && nat_le route.quota (next.low.sum + next.high.sum)))

-- the test says which is next
pub looked : (falls : Bool) (next : Next) (route : Route) (position : Position) → Looked falls next route position → IsPassed falls next route position
looked true next route position s =
    let n : ℕ = length route.rising in
    let reach : Bool = nat_le route.quota (next.low.sum + next.high.sum) in
    let more : position.up < n → (ltb 0 position.rest && reach) ≡ true = λ h. sym (s.test ∙ ap (λ b. not b || (ltb 0 position.rest && reach)) (lt-ltb position.up n h)) in
    let some : 0 < position.rest = elim (cases_lt position.up n) as (λ _. 0 < position.rest) [
      | inl before ↦ ltb-true 0 position.rest (and_parts (ltb 0 position.rest) reach (more before)).0
      | inr end ↦ omega (arith, s.some)
    ] in
    (some, s.high_is some, λ h. omega (arith, leb-true route.quota (next.low.sum + next.high.sum) (and_parts (ltb 0 position.rest) reach (more h)).1, ap (λ (e : Entry). e.sum) (s.low_is h), ap (λ (e : Entry). e.sum) (s.high_is some)))
looked false next route position s =
    let n : ℕ = length route.rising in
    let reach : Bool = nat_le route.quota (next.low.sum + next.high.sum) in
    let none = or_parts (not (ltb position.up n)) (ltb 0 position.rest && reach) (sym s.test) in
    let some : position.up < n = elim (cases_lt position.up n) as (λ _. position.up < n) [
      | inl before ↦ before
      | inr end ↦ absurd (let bad : true ≡ false = sym (ap not (le-ltb position.up n end)) ∙ none.0 in cc)
    ] in
    (some, s.low_is some, λ h. omega (arith, leb-false route.quota (next.low.sum + next.high.sum) (sym (ap (λ b. b && reach) (lt-ltb 0 position.rest h)) ∙ none.1), ap (λ (e : Entry). e.sum) (s.low_is some), ap (λ (e : Entry). e.sum) (s.high_is h)))

-- where neither list has ended, the sums alone say which entry is next
pub both_last : (up n rest : ℕ) (reach : Bool) → up < n → 0 < rest → reach ≡ (not (ltb up n) || (ltb 0 rest && reach))
both_last up n rest reach before some = sym (ap (λ b. not b || (ltb 0 rest && reach)) (lt-ltb up n before) ∙ ap (λ b. b && reach) (lt-ltb 0 rest some))

zero_times : (m : ℕ) → m * 0 ≡ 0
zero_times m = omega arith

pub pass : (falls : Bool) (next : Next) (route : Route) (position : Position) (amount : ℕ) (old new : List MaskTally) → Pass falls next route position amount old new → Passed route (position_after falls position) new
pass true next route position amount old new s =
    let step = falls_at next route position s.between s.is_next in
    let same : position.up + 0 ≡ position.up = omega arith in
    rw same (record {
      between = step.between;
      credited = record {
        rising_total = omega (arith, s.rising_total, s.credited.rising_total);
        rising_marked = λ slot. omega (arith, s.rising_marked slot, s.credited.rising_marked slot, zero_times (bit_at next.high.mask slot));
        falling_total = omega (arith, s.falling_total, s.credited.falling_total, step.total, s.partners);
        falling_marked = λ slot. omega (arith, s.falling_marked slot, s.credited.falling_marked slot, step.marks slot, ap (λ n. bit_at next.high.mask slot * n) s.partners);
      };
    })
pass false next route position amount old new s =
    let step = rises next route position s.between s.is_next in
    let same : position.rest - 0 ≡ position.rest = omega arith in
    rw same (record {
      between = step.between;
      credited = record {
        rising_total = omega (arith, s.rising_total, s.credited.rising_total, step.total, s.partners);
        rising_marked = λ slot. omega (arith, s.rising_marked slot, s.credited.rising_marked slot, step.marks slot, ap (λ n. bit_at next.low.mask slot * n) s.partners);
        falling_total = omega (arith, s.falling_total, s.credited.falling_total);
        falling_marked = λ slot. omega (arith, s.falling_marked slot, s.credited.falling_marked slot, zero_times (bit_at next.low.mask slot));
      };
    })

-- two chains from both ends, which have passed all entries between them
module _ {P Q : PartnerCounts} (route : Route) (front back : Position) (front_tallies back_tallies : List MaskTally) (f : StandsAt P route front front_tallies) (b : StandsAt Q (turned_route route) back back_tallies) (all : front.up + back.up ≡ front.rest + back.rest) where
  -- they meet: the rising entries that the back one has left are exactly those that the front one has passed
  meet : (front.up ≡ back.rest) × (back.up ≡ front.rest)
  meet =
      let lefts : front.up ≡ back.rest = elim (cases_lt front.up back.rest) as (λ _. front.up ≡ back.rest) [
        | inl fewer ↦ (
            -- a pair that reaches by the front chain, and falls short by the back one
            absurd (omega (arith, all, f.between.reached front.up front.rest (omega arith) (omega (arith, b.between.rest_in)) (omega arith) (omega (arith, all, b.between.up_in)), b.between.short front.rest front.up (omega (arith, all)) (omega arith))))
        | inr most ↦ elim (cases_lt back.rest front.up) as (λ _. front.up ≡ back.rest) [
          | inl more ↦ (let k : ℕ = front.up - 1 in let m : ℕ = front.rest - 1 in
              absurd (omega (arith, f.between.short k m (omega arith) (omega (arith, all)), b.between.reached m k (omega (arith, all)) (omega (arith, all, f.between.rest_in)) (omega arith) (omega (arith, f.between.up_in)))))
          | inr least ↦ omega arith
        ]
      ] in
      (lefts, omega (arith, all))

  pub lefts_credited : CreditsEach (wins_on route) route.rising route.falling (tally_at 0 front_tallies) (tally_at 1 back_tallies)
  lefts_credited = record {
    totals = omega (arith, f.credited.rising_total, b.credited.falling_total, both_parts (wins_on route) route.rising route.falling front.up back.rest meet.0);
    marks = λ slot. omega (arith, f.credited.rising_marked slot, b.credited.falling_marked slot, both_parts (with_slot slot (wins_on route)) route.rising route.falling front.up back.rest meet.0);
  }

  pub rights_credited : CreditsEach (wins_on route) route.falling route.rising (tally_at 0 back_tallies) (tally_at 1 front_tallies)
  rights_credited = record {
    totals = omega (arith, b.credited.rising_total, f.credited.falling_total, both_parts (wins_on route) route.falling route.rising back.up front.rest meet.1);
    marks = λ slot. omega (arith, b.credited.rising_marked slot, f.credited.falling_marked slot, both_parts (with_slot slot (wins_on route)) route.falling route.rising back.up front.rest meet.1);
  }
