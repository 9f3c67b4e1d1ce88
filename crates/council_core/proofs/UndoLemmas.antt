-- A register taken back to its first commands.
use Rattle.std.proofs.Common.{◌≡◌, true, ℕ, zero, suc, ◌+◌, ◌<◌, ◌≤◌, List, [], ◌∷◌, length, take, drop, ap, ◌∙◌, refl, subst, arith}
use Rattle.std.proofs.lemmas.List.{length-take}
use Rattle.std.proofs.lemmas.List.Elements.{All-take}
use Rattle.council_core.specs.Changes.{Replays}
use Rattle.council_core.specs.Laws.{SetsInRange}
use Rattle.council_core.specs.Ledgers.{Ledger, ledger_as_of, roll_of}
use Rattle.council_core.specs.Rolls.{Roll, all_accepted, opening_roll}
use Rattle.council_core.specs.declared.limits.TheConstants.{MAX_MEMBERS}
use Rattle.council_core.proofs.MirrorLemmas.{Kept, IsMirror, IsBeside}
use Rattle.council_core.proofs.RollLemmas.{accepted-drop, accepted-take, fold_from-more}

-- the first m are the first n where there are no more
pub take-all_there : {A : Type 0} (xs : List A) (m n : ℕ) → m ≤ n → (m < n → length xs ≤ m) → take m xs ≡ take n xs
take-all_there xs zero zero h none = refl
take-all_there [] zero (suc n) h none = refl
take-all_there (x ∷ xs) zero (suc n) h none = absurd (omega (arith, none (omega arith)))
take-all_there xs (suc m) zero h none = absurd (omega (arith, h))
take-all_there [] (suc m) (suc n) h none = refl
take-all_there {A} (x ∷ xs) (suc m) (suc n) h none =
    ap (λ (l : List A). x ∷ l) (take-all_there xs m n (omega (arith, h)) (λ q. omega (arith, none (omega (arith, q)))))

pub take-take : {A : Type 0} (xs : List A) (n m : ℕ) → n ≤ m → take n xs ≡ take n (take m xs)
take-take xs zero m h = refl
take-take xs (suc n) zero h = absurd (omega (arith, h))
take-take [] (suc n) (suc m) h = refl
take-take {A} (x ∷ xs) (suc n) (suc m) h = ap (λ (l : List A). x ∷ l) (take-take xs n m (omega (arith, h)))

pub take-length : {A : Type 0} (xs : List A) (n : ℕ) → take (length (take n xs)) xs ≡ take n xs
take-length xs zero = refl
take-length [] (suc n) = refl
take-length {A} (x ∷ xs) (suc n) = ap (λ (l : List A). x ∷ l) (take-length xs n)

-- the first of the first
pub first_of_first : {A : Type 0} (xs : List A) (count accepted front first : ℕ) → take count xs ≡ take accepted xs → front ≤ count → count ≤ length xs → front ≤ first → (front < first → count ≤ front)
    → take front xs ≡ take first (take accepted xs)
first_of_first {A} xs count accepted front first same within there most least =
    take-take xs front count within
    ∙ take-all_there (take count xs) front first most (λ h. omega (arith, length-take count xs, least h))
    ∙ ap (λ (l : List A). take first l) same

-- what a register keeps after its first commands
pub IsKept-back : (l : Ledger) (kept : Kept) → IsBeside l kept → (count : ℕ) (now : Kept) → MAX_MEMBERS ≤ length now.entries + now.spare
    → IsMirror (roll_of (ledger_as_of l count)) now → IsBeside (ledger_as_of l count) now
IsKept-back l kept beside count now room m =
    record {
      begun = beside.begun;
      votes = All-take SetsInRange count l.journal beside.votes;
      legal = accepted-take (opening_roll l.opening) l.journal count beside.legal;
      within = omega (arith, length-take count l.journal, beside.within);
      small_limit = beside.small_limit;
      room = room;
      mirrors = m;
    }

-- the data of a new register, and then those after its first commands
module _ (l : Ledger) (legal : all_accepted (opening_roll l.opening) l.journal ≡ true) (front : ℕ) (begun first : Kept) (m : IsMirror (opening_roll l.opening) begun)
    (replays : Replays (take front l.journal) begun.entries begun.totals first.entries first.totals) where
  pub mirrors-first : IsMirror (roll_of (ledger_as_of l front)) first
  mirrors-first = replays (opening_roll l.opening) m (accepted-take (opening_roll l.opening) l.journal front legal)

  -- those from there on are accepted
  pub accepted-then : (more : ℕ) → all_accepted (roll_of (ledger_as_of l front)) (take more (drop front l.journal)) ≡ true
  accepted-then more = accepted-take (roll_of (ledger_as_of l front)) (drop front l.journal) more (accepted-drop (opening_roll l.opening) l.journal front legal)

  pub mirrors-then : (more count : ℕ) → front + more ≡ count → (now : Kept) → Replays (take more (drop front l.journal)) first.entries first.totals now.entries now.totals
      → IsMirror (roll_of (ledger_as_of l count)) now
  mirrors-then more count sum now again =
      subst (λ (r : Roll). IsMirror r now) (fold_from-more (opening_roll l.opening) l.journal front more count sum)
      (again (roll_of (ledger_as_of l front)) mirrors-first (accepted-then more))
