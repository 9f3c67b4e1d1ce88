-- The data fields of a handle: a pointer and a state, and the machine value that they are. Assumes `Logic`.
use Rattle.std.proofs.Common.{◌≡◌, ℕ, ◌<◌, ◌^◌, List, [], ◌∷◌, ◌++◌, refl, ◌∙◌, w64}
use seplogic.Ra.Ura.{Ura}
use mir.Val.{Val, vint, vstruct, vcons, vnil, of_list}
use base.Logic.{ent, emp}
use types.Logic.{Logic, sem}
use denote.RattleType.{RattleType}
use denote.Laws.{Is}
use denote.RawPtr.{Ptr, ptr_val}
use denote.Struct.Struct.{Struct, Struct-Makes}
use denote.Struct.Owning.{shape}
use Rattle.board_c.specs.contracts.register.handles.BoardRegister as handle

abbrev pub R : RattleType
R = handle.the_row

abbrev pub Data : RattleType
Data = Struct (shape handle.the_type)

abbrev pub word : Ptr → ℕ → Val
word p s = vstruct (vcons (ptr_val p) (vcons (vint w64 s) vnil))

pub told : (p : Ptr) (s : ℕ) (vs : List Val) → Is Data (p, (s, tt)) vs → (vs ≡ word p s ∷ []) × (s < 2 ^ 64)
told p s vs is = (is.1.0 ∙ (λ i. vstruct (of_list (is.1.1.0 i ++ (is.1.1.1.0.0 i ++ []))) ∷ []), is.1.1.1.0.1)

pub made : {M : Type 1} {𝓤 : Ura M} (𝓛 : Logic 𝓤) (p : Ptr) (s : ℕ) → s < 2 ^ 64 → ent 𝓤 (emp 𝓤) (sem 𝓛 (Data.own_val (p, (s, tt)) (word p s ∷ [])))
made 𝓛 p s low = Struct-Makes 𝓛 (shape handle.the_type) ((λ _ _. tt), ((λ _ _. (tt, tt)), tt)) (p, (s, tt)) (word p s ∷ []) ((ptr_val p ∷ [], (vint w64 s ∷ [], tt)), (refl, (refl, ((refl, low), tt))))
