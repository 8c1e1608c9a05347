-- Lists of numbers that are written from the front: what a store after the written ones, or among them, makes of them.
use Prim.Native.Nat.{ℕ, ◌+◌, ◌≤◌}
use native.Mathlib.Omega.{arith}
use mathlib.Core.Path.{◌≡◌, sym, ap, ◌∙◌}
use mathlib.Core.List.{List, ◌++◌, append_assoc}
use lib.ListN.{length, drop, length-append, length-drop}
use lib.Seq.{sets, sets-eq, take-append_seam, drop-append-add, drop-drop}
use Rattle.machine.specs.Outcome.{onto}

pub length_onto : (l b : List ℕ) → length l ≤ length b → length (onto l b) ≡ length b
length_onto l b h = simp (length-append, length-drop) (omega arith)

-- stored right after what is written
pub sets_after : (l vs b : List ℕ) → length l + length vs ≤ length b → sets (onto l b) (length l) vs ≡ onto (l ++ vs) b
sets_after l vs b h =
    let n : length l + length vs ≤ length (onto l b) = rw (length_onto l b (omega arith)) h in
    sets-eq vs (onto l b) (length l) n
    ∙ ap (λ (x : List ℕ). x ++ vs ++ drop (length l + length vs) (onto l b)) (take-append_seam l (drop (length l) b))
    ∙ ap (λ (x : List ℕ). (l ++ vs) ++ x) (drop-append-add l (drop (length l) b) (length vs) ∙ drop-drop (length vs) (length l) b ∙ ap (λ (k : ℕ). drop k b) (sym (length-append l vs)))

-- stored among what is written: y in the place of x
pub sets_among : (p x f d y : List ℕ) → length x ≡ length y → sets ((p ++ (x ++ f)) ++ d) (length p) y ≡ (p ++ (y ++ f)) ++ d
sets_among p x f d y h =
    let s : (p ++ (x ++ f)) ++ d ≡ p ++ (x ++ (f ++ d)) = append_assoc p (x ++ f) d ∙ ap (λ (l : List ℕ). p ++ l) (append_assoc x f d) in
    let n : length p + length y ≤ length (p ++ (x ++ (f ++ d))) = simp length-append (omega arith) in
    let t : drop (length p + length y) (p ++ (x ++ (f ++ d))) ≡ f ++ d =
    drop-append-add p (x ++ (f ++ d)) (length y) ∙ ap (λ (k : ℕ). drop k (x ++ (f ++ d))) (sym h) ∙ lib.Seq.drop-append_seam x (f ++ d) in
    ap (λ (l : List ℕ). sets l (length p) y) s
    ∙ sets-eq y (p ++ (x ++ (f ++ d))) (length p) n
    ∙ ap (λ (l : List ℕ). l ++ y ++ drop (length p + length y) (p ++ (x ++ (f ++ d)))) (take-append_seam p (x ++ (f ++ d)))
    ∙ ap (λ (l : List ℕ). (p ++ y) ++ l) t
    ∙ append_assoc p y (f ++ d) ∙ sym (append_assoc p (y ++ f) d ∙ ap (λ (l : List ℕ). p ++ l) (append_assoc y f d))

-- the same in a buffer
pub sets_onto : (p x f y b : List ℕ) → length x ≡ length y → sets (onto (p ++ (x ++ f)) b) (length p) y ≡ onto (p ++ (y ++ f)) b
sets_onto p x f y b h =
    let n : length (p ++ (x ++ f)) ≡ length (p ++ (y ++ f)) = simp length-append (omega arith) in
    sets_among p x f (drop (length (p ++ (x ++ f))) b) y h ∙ ap (λ (k : ℕ). (p ++ (y ++ f)) ++ drop k b) n
