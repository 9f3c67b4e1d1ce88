-- When two routes are the same.
use Rattle.std.proofs.Common.{◌≡◌, List, sym, ap, subst, ◌∙◌}
use Rattle.std.proofs.Props.{props}
use Rattle.half_sums.specs.declared.entry.Entry.{Entry}
use Rattle.half_sums.specs.Entries.{IsHalf}
use Rattle.swing_walk.specs.declared.positions.Route.{Route}

half_once : (entries : List Entry) → IsProp (IsHalf entries)
half_once entries = Prim.hlevel props

-- a route of the same lists, quota and least size
pub same_route : (route : Route) (rising falling : List Entry) (up : IsHalf rising) (down : IsHalf falling) → rising ≡ route.rising → falling ≡ route.falling →
    record { rising = rising; falling = falling; quota = route.quota; least_size = route.least_size; rising_half = up; falling_half = down } ≡ route
same_route route rising falling up down same same_down =
    let of : (es fs : List Entry) → IsHalf es → IsHalf fs → Route = λ es fs h k. record { rising = es; falling = fs; quota = route.quota; least_size = route.least_size; rising_half = h; falling_half = k } in
    subst (λ (es : List Entry). (h : IsHalf es) → of es falling h down ≡ route) (sym same)
    (λ h. subst (λ (fs : List Entry). (k : IsHalf fs) → of route.rising fs h k ≡ route) (sym same_down)
    (λ k. ap (λ x. of route.rising route.falling x k) (half_once route.rising h route.rising_half) ∙ ap (λ x. of route.rising route.falling route.rising_half x) (half_once route.falling k route.falling_half)) down)
    up
