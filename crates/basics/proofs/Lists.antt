-- Two lists that are one: their first members, what follows, and that one of them cannot be empty.
use Prim.Native.Nat.{ℕ}
use native.Mathlib.Omega.{arith}
use mathlib.Core.Path.{◌≡◌}
use mathlib.Core.List.{List, [], ◌∷◌}

pub first_same : {A : Type 0} {x y : A} {l m : List A} → x ∷ l ≡ y ∷ m → x ≡ y
first_same e = cc

pub rest_same : {A : Type 0} {x y : A} {l m : List A} → x ∷ l ≡ y ∷ m → l ≡ m
rest_same e = cc

pub none_some : {A : Type 0} {x : A} {l : List A} → [] ≡ x ∷ l → ⊥
none_some e = let z : ◌≡◌ {A = ℕ} 0 1 = cc in omega arith
