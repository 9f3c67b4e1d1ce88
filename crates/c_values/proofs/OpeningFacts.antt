-- The opening members so far, and those of the entries left.
use Rattle.std.proofs.Common.{◌≡◌, ℕ, ◌+◌, ◌<◌, ◌≤◌, List, [], ◌∷◌, ◌++◌, length, drop, get_or, refl, sym, ap, ◌∙◌, Result, Ok, Err, append_assoc, append-nil}
use Rattle.std.proofs.lemmas.List.{at_drop_more, at_drop_all}
use Rattle.council_core.specs.Rolls.{Opening}
use Rattle.council_core.specs.declared.refusals.Refusal.{Refusal}
use Rattle.c_values.specs.Given.{given_opening, given_entry, both_of}
use Rattle.c_values.specs.declared.entries.BoardEntry.{BoardEntry}

-- these members, then the others
abbrev pub after : Opening → Result Opening Refusal → Result Opening Refusal
after ms (Ok rest) = Ok (ms ++ rest)
after ms (Err e) = Err e

-- one more member
pub after_more : (ms : Opening) (m : List ℕ × ℕ) (r : Result Opening Refusal) → after ms (both_of (λ k ks. k ∷ ks) (Ok m) r) ≡ after (ms ++ m ∷ []) r
after_more ms m (Ok rest) = ap Ok (sym (append_assoc ms (m ∷ []) rest))
after_more ms m (Err e) = refl

pub opening_more : (es : List BoardEntry) (i : ℕ) (ms : Opening) (m : List ℕ × ℕ) (d : BoardEntry) → i < length es → given_entry (get_or es i d) ≡ Ok m
    → given_opening es ≡ after ms (given_opening (drop i es)) → given_opening es ≡ after (ms ++ m ∷ []) (given_opening (drop (i + 1) es))
opening_more es i ms m d inside is so =
    so ∙ ap (after ms) (at_drop_more given_opening es i d inside)
    ∙ ap (λ (e : Result (List ℕ × ℕ) Refusal). after ms (both_of (λ k ks. k ∷ ks) e (given_opening (drop (i + 1) es)))) is
    ∙ after_more ms m (given_opening (drop (i + 1) es))

pub opening_refused : (es : List BoardEntry) (i : ℕ) (ms : Opening) (why : Refusal) (d : BoardEntry) → i < length es → given_entry (get_or es i d) ≡ Err why
    → given_opening es ≡ after ms (given_opening (drop i es)) → given_opening es ≡ Err why
opening_refused es i ms why d inside is so =
    so ∙ ap (after ms) (at_drop_more given_opening es i d inside)
    ∙ ap (λ (e : Result (List ℕ × ℕ) Refusal). after ms (both_of (λ k ks. k ∷ ks) e (given_opening (drop (i + 1) es)))) is

pub opening_done : (es : List BoardEntry) (i : ℕ) (ms : Opening) → length es ≤ i → given_opening es ≡ after ms (given_opening (drop i es)) → given_opening es ≡ Ok ms
opening_done es i ms all so = so ∙ ap (after ms) (at_drop_all given_opening es i all) ∙ ap Ok (append-nil ms)
