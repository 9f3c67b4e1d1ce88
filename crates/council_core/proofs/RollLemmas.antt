-- What a step does to the sums over members, and to the fold.
use Rattle.std.proofs.Common.{◌≡◌, ℕ, zero, suc, ◌+◌, ◌<◌, ◌≤◌, Bool, true, false, true≢false, cond, ◌&&◌, List, [], ◌∷◌, ◌++◌, length, take, drop, get_or, sum_by, Some, is_ok, ap, sym, ◌∙◌, refl, arith, All}
use Rattle.indexmap.specs.IndexMap.{insert_entry}
use Rattle.std.specs.List.{AllByRecursion}
use Rattle.std.specs.Map.{remove_entry}
use Rattle.std.proofs.lemmas.List.Elements.{All-from_recursion, recursion_from_All}
use Rattle.std.proofs.lemmas.List.Sums.{sum_by-cons}
use Rattle.council_core.specs.declared.commands.Command.{Command}
use Rattle.council_core.specs.declared.commands.Standing.{Standing}
use Rattle.council_core.specs.Rolls.{Roll, RollEntry, same_code, standing_among, with_standing, members_without, step, next_roll, fold_from, all_accepted}

-- one more command, at the end
pub fold_from-push : (r : Roll) (xs : List Command) (c : Command) → fold_from r (xs ++ c ∷ []) ≡ next_roll (fold_from r xs) c
fold_from-push r [] c = refl
fold_from-push r (x ∷ xs) c = fold_from-push (next_roll r x) xs c

pub all_accepted-push : (r : Roll) (xs : List Command) (c : Command) → all_accepted r (xs ++ c ∷ []) ≡ (all_accepted r xs && is_ok (step (fold_from r xs) c))
all_accepted-push r [] c = elim (is_ok (step r c)) as (λ b. (b && true) ≡ (true && b)) [ true ↦ refl | false ↦ refl ]
all_accepted-push r (x ∷ xs) c =
    let rest = all_accepted-push (next_roll r x) xs c in
    elim (is_ok (step r x)) as (λ b. (b && all_accepted (next_roll r x) (xs ++ c ∷ [])) ≡ ((b && all_accepted (next_roll r x) xs) && is_ok (step (fold_from (next_roll r x) xs) c))) [ true ↦ rest | false ↦ refl ]

module _ (code : List ℕ) (new : Standing) where
  -- a member that is there keeps its place
  pub insert-with_standing : (es : List RollEntry) (old : Standing) → standing_among code es ≡ Some old → insert_entry same_code es code new ≡ with_standing code new es
  insert-with_standing [] old h = cc
  insert-with_standing (e ∷ es) old h =
      elim (same_code code e.0) as (λ b. cond b (Some e.1) (standing_among code es) ≡ Some old
      → cond b ((e.0, new) ∷ es) (e ∷ insert_entry same_code es code new) ≡ cond b ((e.0, new) ∷ es) (e ∷ with_standing code new es))
      [ true ↦ λ q. refl | false ↦ λ q. ap (λ (l : List RollEntry). e ∷ l) (insert-with_standing es old q) ] h

  pub length-with_standing : (es : List RollEntry) → length (with_standing code new es) ≡ length es
  length-with_standing [] = refl
  length-with_standing (e ∷ es) =
      elim (same_code code e.0) as (λ b. length (cond b ((e.0, new) ∷ es) (e ∷ with_standing code new es)) ≡ length (e ∷ es))
      [ true ↦ refl | false ↦ ap suc (length-with_standing es) ]

  -- a sum over the members gives up what the old standing gave, and gains what the new one gives
  pub sum_with_standing : (f : Standing → ℕ) (es : List RollEntry) (old : Standing) → standing_among code es ≡ Some old
      → sum_by (λ m. f m.1) (with_standing code new es) + f old ≡ sum_by (λ m. f m.1) es + f new
  sum_with_standing f [] old h = cc
  sum_with_standing f (e ∷ es) old h =
      elim (same_code code e.0) as (λ b. cond b (Some e.1) (standing_among code es) ≡ Some old
      → sum_by (λ m. f m.1) (cond b ((e.0, new) ∷ es) (e ∷ with_standing code new es)) + f old ≡ sum_by (λ m. f m.1) (e ∷ es) + f new) [
        | true ↦ λ q.
            let k : f e.1 ≡ f old = cc in
            omega (arith, k, sum_by-cons (λ (m : RollEntry). f m.1) (e.0, new) es, sum_by-cons (λ (m : RollEntry). f m.1) e es)
        | false ↦ λ q.
            omega (arith, sum_with_standing f es old q, sum_by-cons (λ (m : RollEntry). f m.1) e (with_standing code new es), sum_by-cons (λ (m : RollEntry). f m.1) e es)
      ] h

module _ (code : List ℕ) where
  -- a member leaves
  pub without-removed : (es : List RollEntry) → members_without code es ≡ remove_entry (same_code code) es
  without-removed [] = refl
  without-removed (e ∷ es) =
      elim (same_code code e.0) as (λ b. cond b es (e ∷ members_without code es) ≡ cond b es (e ∷ remove_entry (same_code code) es))
      [ true ↦ refl | false ↦ ap (λ (l : List RollEntry). e ∷ l) (without-removed es) ]

  pub length-without : (es : List RollEntry) → length (members_without code es) ≤ length es
  length-without [] = omega arith
  length-without (e ∷ es) =
      elim (same_code code e.0) as (λ b. length (cond b es (e ∷ members_without code es)) ≤ length (e ∷ es))
      [ true ↦ omega arith | false ↦ omega (arith, length-without es) ]

  -- a sum over the members gives up what its standing gave
  pub sum_without : (f : Standing → ℕ) (es : List RollEntry) (old : Standing) → standing_among code es ≡ Some old
      → sum_by (λ m. f m.1) (members_without code es) + f old ≡ sum_by (λ m. f m.1) es
  sum_without f [] old h = cc
  sum_without f (e ∷ es) old h =
      elim (same_code code e.0) as (λ b. cond b (Some e.1) (standing_among code es) ≡ Some old
      → sum_by (λ m. f m.1) (cond b es (e ∷ members_without code es)) + f old ≡ sum_by (λ m. f m.1) (e ∷ es)) [
        | true ↦ λ q.
            let k : f e.1 ≡ f old = cc in
            omega (arith, k, sum_by-cons (λ (m : RollEntry). f m.1) e es)
        | false ↦ λ q.
            omega (arith, sum_without f es old q, sum_by-cons (λ (m : RollEntry). f m.1) e (members_without code es), sum_by-cons (λ (m : RollEntry). f m.1) e es)
      ] h

-- a member's part of a sum is within it
pub part_of_sum : (code : List ℕ) (f : Standing → ℕ) (es : List RollEntry) (s : Standing) → standing_among code es ≡ Some s → f s ≤ sum_by (λ m. f m.1) es
part_of_sum code f [] s h = cc
part_of_sum code f (e ∷ es) s h =
    elim (same_code code e.0) as (λ b. cond b (Some e.1) (standing_among code es) ≡ Some s → f s ≤ sum_by (λ m. f m.1) (e ∷ es)) [
      | true ↦ λ q. let k : f e.1 ≡ f s = cc in omega (arith, k, sum_by-cons (λ (m : RollEntry). f m.1) e es)
      | false ↦ λ q. omega (arith, part_of_sum code f es s q, sum_by-cons (λ (m : RollEntry). f m.1) e es)
    ] h

-- each member keeps a test that its new standing passes
pub all_with_standing : (code : List ℕ) (new : Standing) (P : Standing → Type 0) (es : List RollEntry) → All (λ m. P m.1) es → P new → All (λ m. P m.1) (with_standing code new es)
all_with_standing code new P es h p = All-from_recursion _ _ (by es (recursion_from_All _ _ h))
  where
    by : (es : List RollEntry) → AllByRecursion (λ m. P m.1) es → AllByRecursion (λ m. P m.1) (with_standing code new es)
    by [] h = tt
    by (e ∷ es) h =
        elim (same_code code e.0) as (λ b. AllByRecursion (λ m. P m.1) (cond b ((e.0, new) ∷ es) (e ∷ with_standing code new es)))
        [ true ↦ (p, h.1) | false ↦ (h.0, by es h.1) ]

-- and those that stay keep it
pub all_without : (code : List ℕ) (P : Standing → Type 0) (es : List RollEntry) → All (λ m. P m.1) es → All (λ m. P m.1) (members_without code es)
all_without code P es h = All-from_recursion _ _ (by es (recursion_from_All _ _ h))
  where
    by : (es : List RollEntry) → AllByRecursion (λ m. P m.1) es → AllByRecursion (λ m. P m.1) (members_without code es)
    by [] h = tt
    by (e ∷ es) h =
        elim (same_code code e.0) as (λ b. AllByRecursion (λ m. P m.1) (cond b es (e ∷ members_without code es)))
        [ true ↦ h.1 | false ↦ (h.0, by es h.1) ]

both-left : (a b : Bool) → (a && b) ≡ true → a ≡ true
both-left true b h = refl
both-left false b h = absurd (true≢false (sym h))

both-right : (a b : Bool) → (a && b) ≡ true → b ≡ true
both-right true b h = h
both-right false b h = absurd (true≢false (sym h))

-- each command of an accepted list is accepted after those before it
pub accepted-at : (r : Roll) (xs : List Command) (i : ℕ) (c : Command) → all_accepted r xs ≡ true → i < length xs → c ≡ get_or xs i c → is_ok (step (fold_from r (take i xs)) c) ≡ true
accepted-at r [] i c h within at = absurd (omega arith)
accepted-at r (x ∷ xs) zero c h within at = rw at (both-left (is_ok (step r x)) _ h)
accepted-at r (x ∷ xs) (suc i) c h within at = accepted-at (next_roll r x) xs i c (both-right (is_ok (step r x)) _ h) (omega arith) at

-- so are those up to one of them
pub accepted-take : (r : Roll) (xs : List Command) (n : ℕ) → all_accepted r xs ≡ true → all_accepted r (take n xs) ≡ true
accepted-take r xs zero h = refl
accepted-take r [] (suc n) h = refl
accepted-take r (x ∷ xs) (suc n) h =
    ap (λ b. b && all_accepted (next_roll r x) (take n xs)) (both-left (is_ok (step r x)) _ h) ∙ accepted-take (next_roll r x) xs n (both-right (is_ok (step r x)) _ h)

-- and those from it on, after them
pub accepted-drop : (r : Roll) (xs : List Command) (n : ℕ) → all_accepted r xs ≡ true → all_accepted (fold_from r (take n xs)) (drop n xs) ≡ true
accepted-drop r xs zero h = h
accepted-drop r [] (suc n) h = refl
accepted-drop r (x ∷ xs) (suc n) h = accepted-drop (next_roll r x) xs n (both-right (is_ok (step r x)) _ h)

none_taken : (n : ℕ) → take {A = Command} n [] ≡ []
none_taken zero = refl
none_taken (suc n) = refl

-- the first commands and then some more are the first ones
pub fold_from-more : (r : Roll) (xs : List Command) (n more m : ℕ) → n + more ≡ m → fold_from (fold_from r (take n xs)) (take more (drop n xs)) ≡ fold_from r (take m xs)
fold_from-more r xs zero more m h = ap (λ k. fold_from r (take k xs)) (omega (arith, h))
fold_from-more r [] (suc n) more m h = ap (fold_from r) (none_taken more ∙ sym (none_taken m))
fold_from-more r (x ∷ xs) (suc n) more zero h = absurd (omega (arith, h))
fold_from-more r (x ∷ xs) (suc n) more (suc m) h = fold_from-more (next_roll r x) xs n more m (omega (arith, h))
