-- Pairs that win: they have enough votes and enough chairs.
use Rattle.std.proofs.Common.{◌≡◌, ℕ, ◌+◌, ◌-◌, ◌*◌, ◌≤◌, Bool, true, false, cond, List, length, drop, get_or, arith, refl, ap, ◌∙◌}
use Rattle.std.specs.Prelude.{◌&&◌, nat_le, count_ones}
use Rattle.std.specs.Int.{bit_at}
use Rattle.std.specs.List.{count_by}
use Rattle.std.proofs.lemmas.Bool.{le-leb}
use Rattle.std.proofs.lemmas.Nat.Bits.{bit_at-lt}
use Rattle.std.proofs.lemmas.List.{length-drop}
use Rattle.std.proofs.lemmas.List.Sums.{count_by-le-length}
use Rattle.half_sums.specs.declared.entry.Entry.{Entry}
use Rattle.half_sums.specs.Groups.{size_of}
use Rattle.half_sums.specs.declared.lists.TheConstants.{ROOM}
use Rattle.swing_walk.specs.Pairs.{pairs_where, reaches, has_slot, has_size, wins_as_pair, with_slot}
use Rattle.swing_walk.specs.Sizes.{partners_next, partners_of}
use Rattle.swing_walk.specs.declared.positions.Next.{Next}
use Rattle.swing_walk.specs.declared.positions.Position.{Position}
use Rattle.swing_walk.specs.declared.positions.Route.{Route}
use Rattle.swing_walk.proofs.Counting.{Splits, count_none, count_agree, count_all, count_split, bit_times}
use Rattle.swing_walk.proofs.Steps.{pairs_swap, pairs_agree, turned}

-- the entries with which l wins: of those that reach the quota with it, those with which it has enough chairs
pub count_winning : (quota least at : ℕ) (l : Entry) (entries : List Entry) → Splits quota l.sum at entries → count_by (wins_as_pair quota least l) entries ≡ partners_of least l.mask (drop at entries)
count_winning quota least at l entries s = count_split quota at l entries (has_size least l) s

-- where no size is asked for
partners-any : (least mask : ℕ) (entries : List Entry) → least ≡ 0 → partners_of least mask entries ≡ length entries
partners-any least mask entries none =
    count_agree (λ e. nat_le least (count_ones mask + size_of e)) (λ e. true) entries (λ k d h. le-leb least _ (omega (arith, none))) ∙ count_all entries

-- by the position of a chain, before the set is passed
pub any_partners : (falls : Bool) (next : Next) (route : Route) (position : Position) → route.least_size ≡ 0 →
    cond falls (length route.rising - position.up) (length route.falling - position.rest) ≡ partners_next falls next route position
any_partners true next route position none = omega (arith, partners-any route.least_size next.high.mask (drop position.up route.rising) none, length-drop position.up route.rising)
any_partners false next route position none = omega (arith, partners-any route.least_size next.low.mask (drop position.rest route.falling) none, length-drop position.rest route.falling)

few_partners : (least mask : ℕ) (entries : List Entry) → partners_of least mask entries ≤ length entries
few_partners least mask entries = count_by-le-length (λ (e : Entry). nat_le least (count_ones mask + size_of e)) entries

pub partners_room : (falls : Bool) (next : Next) (route : Route) (position : Position) → partners_next falls next route position ≤ ROOM
partners_room true next route position = omega (arith, few_partners route.least_size next.high.mask (drop position.up route.rising), length-drop position.up route.rising, route.rising_half.bound)
partners_room false next route position = omega (arith, few_partners route.least_size next.low.mask (drop position.rest route.falling), length-drop position.rest route.falling, route.falling_half.bound)

and_true : (a b : Bool) → b ≡ true → (a && b) ≡ a
and_true true b h = h
and_true false b h = refl

and_false : (a b : Bool) → b ≡ false → (a && b) ≡ false
and_false true b h = h
and_false false b h = refl

-- a second test that looks at l alone
count_where : (p : Entry → Bool) (b : Bool) (entries : List Entry) → count_by (λ e. p e && b) entries ≡ cond b (count_by p entries) 0
count_where p true entries = count_agree (λ e. p e && true) p entries (λ k d h. and_true (p (get_or entries k d)) true refl)
count_where p false entries = count_none (λ e. p e && false) entries (λ k d h. and_false (p (get_or entries k d)) false refl)

pub count_slot : (p : Entry → Bool) (slot : ℕ) (l : Entry) (entries : List Entry) → count_by (λ e. p e && has_slot slot l) entries ≡ bit_at l.mask slot * count_by p entries
count_slot p slot l entries = count_where p (has_slot slot l) entries ∙ bit_times (bit_at l.mask slot) (count_by p entries) (bit_at-lt l.mask slot)

-- seen from the right entry
turned_wins : (quota least : ℕ) (a b : Entry) → wins_as_pair quota least b a ≡ wins_as_pair quota least a b
turned_wins quota least a b =
    let swap : size_of b + size_of a ≡ size_of a + size_of b = omega arith in
    ap (λ t. t && has_size least b a) (turned quota a b) ∙ ap (λ n. reaches quota a b && nat_le least n) swap

-- the pairs with a slot, seen from the right entries
pub turned_marks : (quota least slot : ℕ) (left right : List Entry) → pairs_where (with_slot slot (wins_as_pair quota least)) right left ≡ pairs_where (λ l r. wins_as_pair quota least l r && has_slot slot r) left right
turned_marks quota least slot left right =
    let test : Entry → Entry → Bool = with_slot slot (wins_as_pair quota least) in
    pairs_swap test right left ∙ pairs_agree (λ a b. test b a) (λ a b. wins_as_pair quota least a b && has_slot slot b) left right (λ a b. ap (λ t. t && has_slot slot b) (turned_wins quota least a b))
