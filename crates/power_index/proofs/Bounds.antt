-- How large the counts of a board can be, and that a quota and its majority win alike.
use Rattle.std.proofs.Common.{◌≡◌, ℕ, ◌^◌, ◌≤◌, Bool, true, false, cond, List, [], ◌∷◌, map, length, take, arith, refl, sym, ap, ◌∙◌, leb}
use Rattle.std.specs.Prelude.{◌&&◌, not, IsTrue, ◌↔◌}
use Rattle.std.proofs.lemmas.Bool.{leb-true, le-leb}
use Rattle.std.proofs.lemmas.List.{length-take}
use Rattle.std.proofs.lemmas.List.Sums.{count_by-le-length}
use Rattle.council_core.specs.Sheets.{Chair, open_chairs, weight_of}
use Rattle.council_core.specs.Coalitions.{Rule, has_chair, omega_of, eta_of, threshold_rule, subsets}
use Rattle.council_core.proofs.Face.{length-open, length-subsets}
use Rattle.majority_rule.specs.declared.majorities.Majority.{Majority}
use Rattle.majority_rule.specs.Winning.{wins, rule_of}
use Rattle.half_sums.proofs.Face.{sum_agree}
use Rattle.swing_walk.proofs.Face.{both_true}
use Rattle.power_index.specs.Counts.{etas}
use Rattle.council_core.specs.declared.limits.TheConstants.{CHAIRS}

pub omega_bound : (wins : Rule) (chairs : List Chair) → omega_of wins chairs ≤ 2 ^ length chairs
omega_bound wins chairs = omega (arith, count_by-le-length wins (subsets chairs), length-subsets chairs)

pub eta_bound : (wins : Rule) (chair : Chair) (chairs : List Chair) → eta_of wins chair chairs ≤ 2 ^ length chairs
eta_bound wins chair chairs = omega (arith, count_by-le-length (λ s. not (has_chair chair.0 s) && (not (wins s) && wins (chair ∷ s))) (subsets chairs), length-subsets chairs)

pub few_chairs : (words : List ℕ) → length (open_chairs words) ≤ CHAIRS
few_chairs words = omega (arith, length-open 1 (take CHAIRS words), length-take CHAIRS words)

-- a quota and a least size that the winning weights and sizes reach
abbrev pub IsQuota : ℕ → ℕ → Majority → List ℕ → Type 0
IsQuota quota least_size majority words = (w k : ℕ) → ((quota ≤ w) × (least_size ≤ k)) ↔ IsTrue (wins majority words w k)

same_win : (quota least_size w k : ℕ) (majority : Majority) (words : List ℕ) → IsQuota quota least_size majority words → (leb quota w && leb least_size k) ≡ wins majority words w k
same_win quota least_size w k majority words is =
    alike (leb quota w && leb least_size k) (wins majority words w k)
    (λ reached. (is w k).0 (leb-true quota w (both_true (leb quota w) (leb least_size k) reached).0, leb-true least_size k (both_true (leb quota w) (leb least_size k) reached).1))
    (λ won. ap (λ b. b && leb least_size k) (le-leb quota w ((is w k).1 won).0) ∙ le-leb least_size k ((is w k).1 won).1)
  where
    alike : (a b : Bool) → (a ≡ true → b ≡ true) → (b ≡ true → a ≡ true) → a ≡ b
    alike true b to from = sym (to refl)
    alike false true to from = from refl
    alike false false to from = refl

both_hold : (a b : Bool) → a ≡ true → b ≡ true → (a && b) ≡ true
both_hold true b p q = q
both_hold false b p q = p

-- weight enough and chairs enough
pub both_win : {A B : Type 0} (a b : Bool) → A ↔ IsTrue a → B ↔ IsTrue b → (A × B) ↔ IsTrue (a && b)
both_win a b f g = (λ h. both_hold a b (f.0 h.0) (g.0 h.1), λ h. (f.1 (both_true a b h).0, g.1 (both_true a b h).1))

-- rules that agree on each set count alike
omega_agree : (p q : Rule) (chairs : List Chair) → ((s : List Chair) → p s ≡ q s) → omega_of p chairs ≡ omega_of q chairs
omega_agree p q chairs same = sum_agree (λ s. cond (p s) 1 0) (λ s. cond (q s) 1 0) (subsets chairs) (λ s. ap (λ b. cond b 1 0) (same s))

eta_agree : (p q : Rule) (chair : Chair) (chairs : List Chair) → ((s : List Chair) → p s ≡ q s) → eta_of p chair chairs ≡ eta_of q chair chairs
eta_agree p q chair chairs same =
    sum_agree (λ s. cond (not (has_chair chair.0 s) && (not (p s) && p (chair ∷ s))) 1 0) (λ s. cond (not (has_chair chair.0 s) && (not (q s) && q (chair ∷ s))) 1 0) (subsets chairs)
    (λ s. (let f : Bool → Bool → ℕ = λ a b. cond (not (has_chair chair.0 s) && (not a && b)) 1 0 in
    ap (λ a. f a (p (chair ∷ s))) (same s) ∙ ap (f (q s)) (same (chair ∷ s))))

pub omega_by_majority : (quota least_size : ℕ) (majority : Majority) (words : List ℕ) → IsQuota quota least_size majority words → omega_of (threshold_rule quota least_size) (open_chairs words) ≡ omega_of (rule_of majority words) (open_chairs words)
omega_by_majority quota least_size majority words is = omega_agree (threshold_rule quota least_size) (rule_of majority words) (open_chairs words) (λ s. same_win quota least_size (weight_of s) (length s) majority words is)

alike_at_each : (f g : Chair → ℕ) (chairs : List Chair) → ((c : Chair) → f c ≡ g c) → map f chairs ≡ map g chairs
alike_at_each f g [] same = refl
alike_at_each f g (c ∷ chairs) same = ap (λ n. n ∷ map f chairs) (same c) ∙ ap (λ l. g c ∷ l) (alike_at_each f g chairs same)

pub etas_by_majority : (quota least_size : ℕ) (majority : Majority) (words : List ℕ) → IsQuota quota least_size majority words → etas (threshold_rule quota least_size) (open_chairs words) ≡ etas (rule_of majority words) (open_chairs words)
etas_by_majority quota least_size majority words is =
    let board : List Chair = open_chairs words in
    alike_at_each (λ c. eta_of (threshold_rule quota least_size) c board) (λ c. eta_of (rule_of majority words) c board) board
    (λ c. eta_agree (threshold_rule quota least_size) (rule_of majority words) c board (λ s. same_win quota least_size (weight_of s) (length s) majority words is))
