-- What holds of every kind of command, and a command from its parts.
use Rattle.std.proofs.Common.{◌≡◌, ℕ, Bool, true, List, [], ◌∷◌, Some, refl, subst, inl, inr, find, arith}
use Rattle.std.specs.List.{list_all}
use Rattle.std.specs.Str.{bytes_eq}
use Rattle.std.proofs.lemmas.Bool.{cases_Bool}
use Rattle.std.proofs.lemmas.List.Sums.{AllPass-from_list_all}
use Rattle.std.proofs.lemmas.Slice.Eq.{bytes_eq-Decides}
use Rattle.council_core.specs.Commands.{command_of_parts, every_kind, form_of_kind, form_of_parts, kind_of_word, parts_of_command, word_of_kind}
use Rattle.council_core.specs.declared.commands.Command.{Command}
use Rattle.council_core.specs.declared.commands.Command.TheVariants.{Open, Close, Move, SetVotes, Suspend, Restore, Admit, Withdraw}
use Rattle.council_core.specs.declared.kinds.CommandKind.{CommandKind}
use Rattle.council_core.specs.declared.kinds.CommandKind.TheVariants as kind

-- what every kind of the list passes, each kind does
pub each-kind : (p : CommandKind → Bool) → list_all p every_kind ≡ true → (k : CommandKind) → p k ≡ true
each-kind p all kind.Open = AllPass-from_list_all p every_kind all 0 kind.Open (omega arith)
each-kind p all kind.Close = AllPass-from_list_all p every_kind all 1 kind.Open (omega arith)
each-kind p all kind.Move = AllPass-from_list_all p every_kind all 2 kind.Open (omega arith)
each-kind p all kind.SetVotes = AllPass-from_list_all p every_kind all 3 kind.Open (omega arith)
each-kind p all kind.Suspend = AllPass-from_list_all p every_kind all 4 kind.Open (omega arith)
each-kind p all kind.Restore = AllPass-from_list_all p every_kind all 5 kind.Open (omega arith)
each-kind p all kind.Admit = AllPass-from_list_all p every_kind all 6 kind.Open (omega arith)
each-kind p all kind.Withdraw = AllPass-from_list_all p every_kind all 7 kind.Open (omega arith)

pub kind-back : (k : CommandKind) → kind_of_word (word_of_kind k) ≡ Some k
kind-back kind.Open = refl
kind-back kind.Close = refl
kind-back kind.Move = refl
kind-back kind.SetVotes = refl
kind-back kind.Suspend = refl
kind-back kind.Restore = refl
kind-back kind.Admit = refl
kind-back kind.Withdraw = refl

-- what is found passes the test
pub found-passes : {A : Type 0} (p : A → Bool) (xs : List A) (x : A) → find p xs ≡ Some x → p x ≡ true
found-passes p [] x found = cc found
found-passes p (y ∷ ys) x found = elim (cases_Bool (p y)) [
  | inl passes ↦
      let same : y ≡ x = let e : Some y ≡ Some x = rw passes at found in cc e in
      subst (λ z. p z ≡ true) same passes
  | inr fails ↦ found-passes p ys x (rw fails at found)
]

pub kind-word : (word : List ℕ) (k : CommandKind) → kind_of_word word ≡ Some k → word ≡ word_of_kind k
kind-word word k found = (bytes_eq-Decides word (word_of_kind k)).0 (found-passes (λ k. bytes_eq word (word_of_kind k)) every_kind k found)

-- a command is whole again from its kind and its parts, which are in the kind's form
pub command-whole : (c : Command) → command_of_parts (parts_of_command c).0 (parts_of_command c).1 ≡ Some c
command-whole (Open chair) = refl
command-whole (Close chair) = refl
command-whole (Move code to) = refl
command-whole (SetVotes code votes) = refl
command-whole (Suspend code) = refl
command-whole (Restore code) = refl
command-whole (Admit code votes) = refl
command-whole (Withdraw code) = refl

pub command-formed : (c : Command) → form_of_parts (parts_of_command c).1 ≡ form_of_kind (parts_of_command c).0
command-formed (Open chair) = refl
command-formed (Close chair) = refl
command-formed (Move code to) = refl
command-formed (SetVotes code votes) = refl
command-formed (Suspend code) = refl
command-formed (Restore code) = refl
command-formed (Admit code votes) = refl
command-formed (Withdraw code) = refl
