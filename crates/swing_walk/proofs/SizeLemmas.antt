-- Counts by size: the steps of a set, what is read of tallies modulo 2^16, and what a set more comes to.
use Rattle.std.proofs.Common.{◌≡◌, ℕ, ◌+◌, ◌-◌, ◌%◌, ◌^◌, ◌<◌, ◌≤◌, Bool, true, false, cond, List, [], ◌∷◌, length, take, drop, get_or, arith, refl, sym, ap, ◌∙◌, zero, suc, inl, inr}
use Rattle.std.specs.Prelude.{nat_le, nat_lt, min, count_ones}
use Rattle.std.specs.List.{All}
use Rattle.std.proofs.lemmas.Bool.{le-leb, lt-leb, le-ltb, lt-ltb, cases_lt}
use Rattle.std.proofs.lemmas.List.{get_or-take, get_or-drop, get_or_past, length-drop, length-take}
use Rattle.std.proofs.lemmas.List.Elements.{All-weaker, All-drop}
use Rattle.std.proofs.lemmas.List.Sums.{sum_by-cons, sum_by_more, sum_by-drop_more, sum_by-take-drop, count_by-le-length}
use Rattle.half_sums.specs.declared.entry.Entry.{Entry}
use Rattle.half_sums.specs.Groups.{size_of, fewer_than}
use Rattle.half_sums.specs.Entries.{entry_at}
use Rattle.half_sums.proofs.Face.{sizes_few}
use Rattle.swing_walk.specs.Sizes.{partners_next, partners_of, at_least, one_at, tally_of_size, CountsBySize}
use Rattle.swing_walk.specs.Sides.{sizes_at}
use Rattle.swing_walk.specs.Walks.{IsPassed, position_after}
use Rattle.swing_walk.specs.declared.partners.BySize.{BySize}
use Rattle.swing_walk.specs.declared.positions.Next.{Next}
use Rattle.swing_walk.specs.declared.positions.Position.{Position}
use Rattle.swing_walk.specs.declared.positions.Route.{Route}
use Rattle.swing_walk.specs.declared.sizes.TheConstants.{LANES}
use Rattle.swing_walk.proofs.Counting.{count_none, count_agree}
use Rattle.half_sums.specs.Entries.{zero_entry}
use Rattle.half_sums.specs.declared.groups.TheConstants.{SIZES, SLOTS}
use Rattle.half_sums.specs.declared.lists.TheConstants.{ROOM}

-- a number of ones, followed by a number of zeros
abbrev pub steps : ℕ → ℕ → List ℕ
steps zero zero = []
steps zero (suc m) = 0 ∷ steps zero m
steps (suc n) m = 1 ∷ steps n m

noughts : (m k : ℕ) → get_or (steps zero m) k 0 ≡ 0
noughts zero k = refl
noughts (suc m) zero = refl
noughts (suc m) (suc k) = noughts m k

ones_at : (n m k : ℕ) → k < n → get_or (steps n m) k 0 ≡ 1
ones_at zero m k h = absurd (omega arith)
ones_at (suc n) m zero h = refl
ones_at (suc n) m (suc k) h = ones_at n m k (omega arith)

noughts_at : (n m k : ℕ) → n ≤ k → get_or (steps n m) k 0 ≡ 0
noughts_at zero m k h = noughts m k
noughts_at (suc n) m zero h = absurd (omega arith)
noughts_at (suc n) m (suc k) h = noughts_at n m k (omega arith)

-- the steps of a set of n chairs
own_step : (chairs size : ℕ) → chairs ≤ SLOTS → size < LANES → get_or (take (SLOTS - chairs + LANES - (SLOTS - chairs)) (drop (SLOTS - chairs) (steps SIZES 23))) size 0 ≡ cond (nat_le size chairs) 1 0
own_step chairs size bound within =
    get_or-take (SLOTS - chairs + LANES - (SLOTS - chairs)) (drop (SLOTS - chairs) (steps SIZES 23)) size 0 (omega arith)
    ∙ get_or-drop (SLOTS - chairs) (steps SIZES 23) size 0
    ∙ elim (cases_lt chairs size) [
      | inl above ↦ noughts_at SIZES 23 (SLOTS - chairs + size) (omega arith) ∙ ap (λ b. cond b 1 0) (sym (lt-leb size chairs above))
      | inr own ↦ ones_at SIZES 23 (SLOTS - chairs + size) (omega arith) ∙ ap (λ b. cond b 1 0) (sym (le-leb size chairs own))
    ]

pub own_steps : (chairs size : ℕ) → chairs ≤ SLOTS → get_or (take (SLOTS - chairs + LANES - (SLOTS - chairs)) (drop (SLOTS - chairs) (steps SIZES 23))) size 0 ≡ cond (nat_le size chairs) 1 0
own_steps chairs size bound = elim (cases_lt size LANES) [
  | inl within ↦ own_step chairs size bound within
  | inr past ↦ get_or_past (take (SLOTS - chairs + LANES - (SLOTS - chairs)) (drop (SLOTS - chairs) (steps SIZES 23))) size 0 (omega (arith, length-take (SLOTS - chairs + LANES - (SLOTS - chairs)) (drop (SLOTS - chairs) (steps SIZES 23))))
      ∙ ap (λ b. cond b 1 0) (sym (lt-leb size chairs (omega arith)))
]

-- one more entry, after the others and before them
taken_more : (size at : ℕ) (entries : List Entry) → at < length entries → at_least size (take (at + 1) entries) ≡ at_least size (take at entries) + one_at size (entry_at entries at).mask
taken_more size at entries inside = sum_by_more (λ (e : Entry). cond (nat_le size (size_of e)) 1 0) entries at zero_entry inside

dropped_more : (size at : ℕ) (entries : List Entry) → 0 < at → at ≤ length entries → at_least size (drop (at - 1) entries) ≡ one_at size (entry_at entries (at - 1)).mask + at_least size (drop at entries)
dropped_more size at entries some within =
    let one : at - 1 + 1 ≡ at = omega arith in
    rw one at (sum_by-drop_more (λ (e : Entry). cond (nat_le size (size_of e)) 1 0) entries (at - 1) zero_entry (omega arith))

-- two sets have enough chairs together exactly if one has as many as the other lacks
enough_chairs : (least x y : ℕ) → nat_le least (x + y) ≡ nat_le (least - x) y
enough_chairs least x y = elim (cases_lt (x + y) least) [
  | inl bound ↦ lt-leb least (x + y) bound ∙ sym (lt-leb (least - x) y (omega arith))
  | inr many ↦ le-leb least (x + y) many ∙ sym (le-leb (least - x) y (omega arith))
]

-- no set has more chairs than there are slots
none_larger : (size : ℕ) (entries : List Entry) → All (λ e. e.mask < 2 ^ SLOTS) entries → SLOTS < size → at_least size entries ≡ 0
none_larger size entries slots large = count_none (λ e. nat_le size (size_of e)) entries
    (All-weaker (λ (e : Entry). size_of e ≤ SLOTS) (λ e. nat_le size (size_of e) ≡ false) (λ e bound. lt-leb size (size_of e) (omega arith)) entries (sizes_few entries slots))

-- the partners of a set by the chairs that it lacks
partners-lacking : (least mask lane : ℕ) (entries : List Entry) → All (λ e. e.mask < 2 ^ SLOTS) entries → lane ≡ min (least - count_ones mask) SIZES → partners_of least mask entries ≡ at_least lane entries
partners-lacking least mask lane entries slots is =
    let lacks : ℕ = least - count_ones mask in
    let same : partners_of least mask entries ≡ at_least lacks entries = count_agree (λ e. nat_le least (count_ones mask + size_of e)) (λ e. nat_le lacks (size_of e)) entries (λ k d h. enough_chairs least (count_ones mask) (size_of (get_or entries k d))) in
    same ∙ elim (cases_lt lacks SIZES) as (λ _. at_least lacks entries ≡ at_least lane entries) [
      | inl bound ↦ ap (λ n. at_least n entries) (let e : lacks ≡ lane = omega (arith, is) in e)
      | inr many ↦ none_larger lacks entries slots (omega arith) ∙ sym (none_larger lane entries slots (omega (arith, is)))
    ]

-- each set has fewer than `size` chairs, or at least `size`
one_kind : (size s : ℕ) → cond (nat_lt s size) 1 0 + cond (nat_le size s) 1 0 ≡ 1
one_kind size s =
    let v : Bool → ℕ = λ b. cond b 1 0 in
    elim (cases_lt s size) as (λ _. cond (nat_lt s size) 1 0 + cond (nat_le size s) 1 0 ≡ 1) [
      | inl bound ↦ omega (arith, ap v (lt-ltb s size bound), ap v (lt-leb size s bound))
      | inr many ↦ omega (arith, ap v (le-ltb s size many), ap v (le-leb size s many))
    ]

both_kinds : (size : ℕ) (entries : List Entry) → fewer_than size entries + at_least size entries ≡ length entries
both_kinds size [] = refl
both_kinds size (e ∷ entries) =
    omega (arith, one_kind size (size_of e), both_kinds size entries, sum_by-cons (λ (x : Entry). cond (nat_lt (size_of x) size) 1 0) e entries, sum_by-cons (λ (x : Entry). cond (nat_le size (size_of x)) 1 0) e entries)

-- what is read at a size, as long as fewer sets were passed than a number of 16 bits holds
module _ (by : BySize) (size : ℕ) (route : Route) (position : Position) where
  pub record Reads : Type 0 where
    pub room : get_or by.fewer size 0 + tally_of_size size (sizes_at 0 by.passed) ≤ length route.rising
    pub left : get_or by.fewer size 0 + tally_of_size size (sizes_at 0 by.passed) + at_least size (drop position.up route.rising) ≡ length route.rising
    pub gone : tally_of_size size (sizes_at 1 by.passed) ≡ at_least size (drop position.rest route.falling)

  pub reads : CountsBySize by route position → size ≤ SIZES → position.up + length route.falling < position.rest + ROOM → position.rest ≤ length route.falling → Reads
  reads counts bound early within =
      let test : Entry → Bool = λ e. nat_le size (size_of e) in
      let left : get_or by.fewer size 0 + tally_of_size size (sizes_at 0 by.passed) + at_least size (drop position.up route.rising) ≡ length route.rising =
      omega (arith, counts.fewer size bound, counts.risen size (omega arith), both_kinds size route.rising, sum_by-take-drop (λ (e : Entry). cond (nat_le size (size_of e)) 1 0) route.rising position.up, count_by-le-length test (take position.up route.rising), length-take position.up route.rising) in
      record {
        room = omega (arith, left);
        left = left;
        gone = omega (arith, counts.fallen size (omega arith), count_by-le-length test (drop position.rest route.falling), length-drop position.rest route.falling);
      }

-- which are the partners of a set
pub partners-read : (falls : Bool) (by : BySize) (next : Next) (route : Route) (position : Position) (lane left gone : ℕ) → Reads by lane route position → lane ≡ min (route.least_size - count_ones (cond falls next.high.mask next.low.mask)) SIZES →
    left ≡ length route.rising - get_or by.fewer lane 0 - tally_of_size lane (sizes_at 0 by.passed) → gone ≡ tally_of_size lane (sizes_at 1 by.passed) → cond falls left gone ≡ partners_next falls next route position
partners-read true by next route position lane left gone r is is_left is_gone =
    omega (arith, is_left, r.left, partners-lacking route.least_size next.high.mask lane (drop position.up route.rising) (All-drop (λ (e : Entry). e.mask < 2 ^ SLOTS) position.up route.rising route.rising_half.slots) is)
partners-read false by next route position lane left gone r is is_left is_gone =
    omega (arith, is_gone, r.gone, partners-lacking route.least_size next.low.mask lane (drop position.rest route.falling) (All-drop (λ (e : Entry). e.mask < 2 ^ SLOTS) position.rest route.falling route.falling_half.slots) is)

-- a set is passed
pub record Counted (falls : Bool) (next : Next) (old new : BySize) (mask : ℕ) : Type 0 where
  pub is_mask : mask ≡ cond falls next.high.mask next.low.mask
  pub fewer : new.fewer ≡ old.fewer
  pub rising : (size : ℕ) → size < LANES → tally_of_size size (sizes_at 0 new.passed)
      ≡ cond falls (tally_of_size size (sizes_at 0 old.passed)) ((tally_of_size size (sizes_at 0 old.passed) + one_at size mask) % 2 ^ 16)
  pub falling : (size : ℕ) → size < LANES → tally_of_size size (sizes_at 1 new.passed)
      ≡ cond falls ((tally_of_size size (sizes_at 1 old.passed) + one_at size mask) % 2 ^ 16) (tally_of_size size (sizes_at 1 old.passed))

pub passed : (falls : Bool) (next : Next) (route : Route) (position : Position) (old new : BySize) (mask : ℕ) → CountsBySize old route position → IsPassed falls next route position → position.rest ≤ length route.falling → Counted falls next old new mask →
    CountsBySize new route (position_after falls position)
passed true next route position old new mask counts is_next within c =
    let same : position.up + 0 ≡ position.up = omega arith in
    rw same (record {
      fewer = λ size bound. ap (λ xs. get_or xs size 0) c.fewer ∙ counts.fewer size bound;
      risen = λ size bound. c.rising size bound ∙ counts.risen size bound;
      fallen = λ size bound. omega (arith, c.falling size bound, counts.fallen size bound, dropped_more size position.rest route.falling is_next.0 within, ap (one_at size) (c.is_mask ∙ ap (λ (e : Entry). e.mask) is_next.1));
    })
passed false next route position old new mask counts is_next within c =
    let same : position.rest - 0 ≡ position.rest = omega arith in
    rw same (record {
      fewer = λ size bound. ap (λ xs. get_or xs size 0) c.fewer ∙ counts.fewer size bound;
      risen = λ size bound. omega (arith, c.rising size bound, counts.risen size bound, taken_more size position.up route.rising is_next.0, ap (one_at size) (c.is_mask ∙ ap (λ (e : Entry). e.mask) is_next.1));
      fallen = λ size bound. c.falling size bound ∙ counts.fallen size bound;
    })
