-- Bytes that stand in the same classes of the rules are alike in every state.
use Prim.Native.Nat.{ℕ, zero, suc, ◌<◌}
use mathlib.Core.Path.{◌≡◌, refl}
use mathlib.Core.Bool.{true}
use mathlib.Core.List.{List, [], ◌∷◌, map}
use lib.Dec.{eqb, ltb}
use lib.ListN.{get_or, length}
use borrow.Author.Tests.{ltb-true, eqb-true}
use Rattle.basics.proofs.Tests.{and_left, and_right}
use Rattle.definitions.specs.Rules.{Rule, rules}
use Rattle.lexing.specs.Scan.{go_on}
use Rattle.lex_table.specs.States.{classes}
use Rattle.lex_table.proofs.Words.{firsts, words}
use Rattle.lex_table.proofs.Every.{at_each}
use Rattle.lex_table.proofs.Alike.{alike_in, same_on, still_alike_in}
use Rattle.lex_table.proofs.States.{go_through, after_word, states, st, told, firsts_alike, its_own, firsts_first, same_class, firsts_class}

-- the first byte that is alike
abbrev pub first_of : ℕ → ℕ
first_of b = get_or firsts b 0

pub firsts_length : length firsts ≡ 256
unfolding firsts
firsts_length = refl

pub first_first : (b : ℕ) → b < 256 → first_of (first_of b) ≡ first_of b
unfolding its_own
first_first b h =
    let f = first_of b in
    eqb-true (first_of f) f (and_left (eqb (first_of f) f) (ltb f 256) (at_each its_own firsts 0 firsts_first b (rw firsts_length h)))

pub first_below : (b : ℕ) → b < 256 → first_of b < 256
unfolding its_own
first_below b h =
    let f = first_of b in
    ltb-true f 256 (and_right (eqb (first_of f) f) (ltb f 256) (at_each its_own firsts 0 firsts_first b (rw firsts_length h)))

pub first_class : (b : ℕ) → b < 256 → get_or classes b 0 ≡ get_or classes (first_of b) 0
unfolding same_class
first_class b h = eqb-true _ _ (at_each same_class firsts 0 firsts_class b (rw firsts_length h))

-- after any text
alike_after : (b c : ℕ) (w : List ℕ) (rs : List Rule) → alike_in b c rs ≡ true → alike_in b c (go_through w rs) ≡ true
unfolding go_through
alike_after b c [] rs h = h
alike_after b c (a ∷ w) rs h = alike_after b c w (go_on a rs) (still_alike_in a b c rs h)

at_words : (P : List Rule → Type 0) (ws : List (List ℕ)) → ((w : List ℕ) → P (after_word w)) → P []
    → (i : ℕ) → P (get_or (map after_word ws) i [])
at_words P [] h none i = none
at_words P (w ∷ ws) h none zero = h w
at_words P (w ∷ ws) h none (suc i) = at_words P ws h none i

pub same_first : (i b : ℕ) → b < 256 → go_on b (st i) ≡ go_on (first_of b) (st i)
unfolding told states alike_in
same_first i b h =
    let f = first_of b in
    let t : alike_in b f rules ≡ true = at_each told firsts 0 firsts_alike b (rw firsts_length h) in
    same_on b f (st i) (at_words (λ (rs : List Rule). alike_in b f rs ≡ true) words (λ (w : List ℕ). alike_after b f w rules t) refl i)
