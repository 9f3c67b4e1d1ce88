-- A register at its start.
use Rattle.std.proofs.Common.{◌≡◌, ℕ, zero, suc, ◌+◌, ◌^◌, ◌<◌, ◌≤◌, Bool, true, false, cond, ◌||◌, List, [], ◌∷◌, ◌++◌, length, map, take, drop, sum_by, None, Some, sym, ◌∙◌, ap, subst, refl, arith, true≢false, All, get_or, slice_index, replicate}
use Rattle.std.specs.Prelude.{⊤, ◌==◌, ◌↔◌, nat_lt, Result, Ok, Err}
use Rattle.std.specs.List.{list_any, AllByRecursion}
use Rattle.std.proofs.lemmas.Bool.Decides.{nat_tests}
use Rattle.std.proofs.lemmas.List.{length-map}
use Rattle.std.proofs.lemmas.List.Elements.{All-from_recursion, recursion_from_All}
use Rattle.std.proofs.lemmas.List.Sums.{sum_by-cons}
use Rattle.council_core.specs.Rolls.{RollEntry, Opening, new_entry, same_code, standing_among, effective_votes, opening_roll}
use Rattle.council_core.specs.Ledgers.{has_duplicate, start_verdict}
use Rattle.council_core.specs.declared.refusals.Refusal.{Refusal}
use Rattle.council_core.specs.declared.refusals.Refusal.TheVariants.{BadLimit, DuplicateMember, TooManyMembers}
use Rattle.council_core.specs.Registers.{members_in_chair, sits_as}
use Rattle.council_core.specs.Laws.{IsOpening, SetsInRange}
use Rattle.council_core.proofs.MirrorLemmas.{Kept, IsMirror, IsBeside}

pub zeros : (n k : ℕ) → ◌≡◌ {A = ℕ} (get_or (replicate {A = ℕ} n 0) k 0) 0
zeros zero k = refl
zeros (suc n) zero = refl
zeros (suc n) (suc k) = zeros n k

no_left : (a b : Bool) → (a || b) ≡ false → a ≡ false
no_left true b h = absurd (true≢false h)
no_left false b h = refl

no_right : (a b : Bool) → (a || b) ≡ false → b ≡ false
no_right true b h = absurd (true≢false h)
no_right false b h = h

-- where no two codes are the same, none is among those before it
not_before : (xs : Opening) (m : List ℕ × ℕ) (ys : Opening) → has_duplicate (xs ++ m ∷ ys) ≡ false → standing_among m.0 (map new_entry xs) ≡ None
not_before [] m ys h = refl
not_before (x ∷ xs) m ys h =
    let later : list_any (λ n. same_code n.0 x.0) (xs ++ m ∷ ys) ≡ false = no_left _ (has_duplicate (xs ++ m ∷ ys)) h in
    let off : same_code m.0 x.0 ≡ false = among xs later in
    ap (λ b. cond b (Some (new_entry x).1) (standing_among m.0 (map new_entry xs))) off ∙ not_before xs m ys (no_right (list_any (λ n. same_code n.0 x.0) (xs ++ m ∷ ys)) _ h)
  where
    among : (zs : Opening) → list_any (λ n. same_code n.0 x.0) (zs ++ m ∷ ys) ≡ false → same_code m.0 x.0 ≡ false
    among [] q = no_left _ _ q
    among (z ∷ zs) q = among zs (no_right (same_code z.0 x.0) _ q)

split_here : (xs : Opening) (i : ℕ) (m : List ℕ × ℕ) → i < length xs → m ≡ get_or xs i m → xs ≡ take i xs ++ (m ∷ drop (suc i) xs)
split_here [] i m h at = absurd (omega arith)
split_here (x ∷ xs) zero m h at = ap (λ (y : List ℕ × ℕ). y ∷ xs) (sym at)
split_here (x ∷ xs) (suc i) m h at = ap (λ (l : Opening). x ∷ l) (split_here xs i m (omega arith) at)

pub fresh : (members : Opening) (i : ℕ) (m : List ℕ × ℕ) → has_duplicate members ≡ false → i < length members → m ≡ get_or members i m → standing_among m.0 (map new_entry (take i members)) ≡ None
fresh members i m none within at =
    let split : members ≡ take i members ++ (m ∷ drop (suc i) members) = split_here members i m within at in
    not_before (take i members) m (drop (suc i) members) (ap has_duplicate (sym split) ∙ none)

start_seated : (opening : Opening) (c : ℕ) → members_in_chair (map new_entry opening) c ≡ 0
start_seated [] c = refl
start_seated (m ∷ ms) c = omega (arith, start_seated ms c, sum_by-cons (λ (e : RollEntry). sits_as c e.1) (new_entry m) (map new_entry ms))

start_total : (opening : Opening) → sum_by (λ (e : RollEntry). effective_votes e.1) (map new_entry opening) ≡ sum_by (λ (m : List ℕ × ℕ). m.1) opening
start_total [] = refl
start_total (m ∷ ms) = omega (arith, start_total ms, sum_by-cons (λ (e : RollEntry). effective_votes e.1) (new_entry m) (map new_entry ms), sum_by-cons (λ (m : List ℕ × ℕ). m.1) m ms)

pub start_small : (opening : Opening) → AllByRecursion (λ m. m.1 ≤ 2 ^ 40) opening → AllByRecursion (λ (e : RollEntry). e.1.votes ≤ 2 ^ 40) (map new_entry opening)
start_small [] h = tt
start_small (m ∷ ms) h = (h.0, start_small ms h.1)

-- the data of a register at its start: the members given, no weight and no member in any chair, and all
-- their votes
pub record IsBeginning (opening : Opening) (kept : Kept) : Type 0 where
  pub made : kept.entries ≡ map new_entry opening
  pub bound : length opening ≤ 256
  pub words : (k : ℕ) → slice_index kept.totals.words k ≡ 0
  pub counts : (k : ℕ) → slice_index kept.totals.counts k ≡ 0
  pub total : kept.totals.total ≡ sum_by (λ (m : List ℕ × ℕ). m.1) opening
  pub votes : All (λ (m : List ℕ × ℕ). m.1 ≤ 2 ^ 40) opening

pub Mirrors-start : (opening : Opening) (kept : Kept) → IsBeginning opening kept → IsMirror (opening_roll opening) kept
Mirrors-start opening kept start =
    record {
      same_members = start.made;
      each_word = λ k h. start.words k;
      each_count = λ k h. start.counts k ∙ sym (start_seated opening (k + 1));
      same_total = start.total ∙ sym (start_total opening);
      closed_empty = λ c h. start_seated opening c;
      bound = subst (λ (l : List RollEntry). length l ≤ 256) (sym start.made) (rw length-map start.bound);
      small = subst (λ (l : List RollEntry). All (λ m. m.1.votes ≤ 2 ^ 40) l) (sym start.made) (All-from_recursion _ _ (start_small opening (recursion_from_All _ _ start.votes)));
    }

-- a register at its start
pub record IsStart (opening : Opening) (limit : ℕ) (kept : Kept) : Type 0 where
  pub beginning : IsBeginning opening kept
  pub room : 256 ≤ length kept.entries + kept.spare
  pub apart : has_duplicate opening ≡ false
  pub small : limit ≤ 1000000

pub IsKept-start : (opening : Opening) (limit : ℕ) (kept : Kept) → IsStart opening limit kept → IsBeside (record { opening = opening; journal = []; limit = limit }) kept
IsKept-start opening limit kept start =
    record {
      begun = record { bound = start.beginning.bound; apart = start.apart; small = start.beginning.votes };
      votes = All-from_recursion SetsInRange [] tt;
      legal = refl;
      within = omega arith;
      small_limit = start.small;
      room = start.room;
      mirrors = Mirrors-start opening kept start.beginning;
    }

abbrev refusals : Bool → Bool → Bool → Result ⊤ Refusal
refusals bad many twice = cond bad (Err BadLimit) (cond many (Err TooManyMembers) (cond twice (Err DuplicateMember) (Ok tt)))

none_refused : (bad many twice : Bool) → refusals bad many twice ≡ Ok tt → (bad ≡ false) × (many ≡ false) × (twice ≡ false)
none_refused true many twice h = absurd (cc)
none_refused false true twice h = absurd (cc)
none_refused false false true h = absurd (cc)
none_refused false false false h = (refl, refl, refl)

not_above : (limit n : ℕ) → nat_lt limit n ≡ false → n ≤ limit
not_above limit n h = grind (arith, nat_tests, h)

not_zero : (n : ℕ) → (n == 0) ≡ false → 1 ≤ n
not_zero n h = grind (arith, nat_tests, h)

is_above : (limit n : ℕ) → n ≤ limit → nat_lt limit n ≡ false
is_above limit n h = grind (arith, nat_tests, h)

is_some_number : (n : ℕ) → 1 ≤ n → (n == 0) ≡ false
is_some_number n h = grind (arith, nat_tests, h)

-- no test refuses a start exactly if the limit is in range and the members are an opening
pub starts : (opening : Opening) (limit : ℕ) → All (λ m. m.1 ≤ 2 ^ 40) opening → (start_verdict opening limit ≡ Ok tt) ↔ ((1 ≤ limit) × (limit ≤ 1000000) × IsOpening opening)
starts opening limit small = (
  λ h.
      let none = none_refused _ _ _ h in
      (not_zero limit (no_left _ _ none.0), not_above 1000000 limit (no_right (limit == 0) _ none.0), record { bound = not_above 256 (length opening) none.1; apart = none.2; small = small }),
  λ is.
      ap (λ b. refusals b (nat_lt 256 (length opening)) (has_duplicate opening)) (ap (λ b. b || nat_lt 1000000 limit) (is_some_number limit is.0) ∙ is_above 1000000 limit is.1)
      ∙ ap (λ b. refusals false b (has_duplicate opening)) (is_above 256 (length opening) is.2.bound)
      ∙ ap (λ b. refusals false false b) is.2.apart,
)
