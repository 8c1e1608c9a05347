-- `callback_of`: by the state, which is its row by 256.
use Prim.Native.Nat.{ℕ, ◌/◌, ◌*◌, ◌≤◌, ◌<◌}
use native.Mathlib.Omega.{arith}
use mathlib.Core.Path.{◌≡◌, sym, ap}
use mathlib.Core.Bool.{true, false}
use lib.Dec.{eqb, ltb}
use borrow.Author.Tests.{lt-ltb, le-ltb, ne_eqb}
use Rattle.definitions.specs.Rules.{no_callback, lex_bytestring}
use Rattle.lex_table.specs.Matches.{callback_of}
use Rattle.lex_table.proofs.callback.callback_of.Goals as goal

before_all : (row : ℕ) → row < 32768 → no_callback ≡ callback_of (row / 256)
unfolding callback_of
before_all row h = let z : ltb (row / 256) 128 ≡ true = lt-ltb (row / 256) 128 (omega (arith, h)) in rw z

last : (row : ℕ) → row / 256 * 256 ≡ row → 32768 ≤ row → (row ≡ 32768 → ⊥) → (row ≡ 33024 → ⊥) → (row ≡ 33280 → ⊥)
    → lex_bytestring ≡ callback_of (row / 256)
unfolding callback_of
last row w h a b c =
    let i = row / 256 in
    let z : ltb i 128 ≡ false = le-ltb i 128 (omega (arith, w, h)) in
    let x : eqb i 128 ≡ false = ne_eqb i 128 (λ e. a (omega (arith, w, e))) in
    let y : eqb i 129 ≡ false = ne_eqb i 129 (λ e. b (omega (arith, w, e))) in
    let v : eqb i 130 ≡ false = ne_eqb i 130 (λ e. c (omega (arith, w, e))) in
    rw (z, x, y, v)

pub returns-then-row-lt-BLOCK_COMMENT : goal.returns-then-row-lt-BLOCK_COMMENT
returns-then-row-lt-BLOCK_COMMENT c = before_all c.args.row (omega arith)

pub returns-in-32768 : goal.returns-in-32768
unfolding callback_of
returns-in-32768 c = ap (λ (r : ℕ). callback_of (r / 256)) (sym c.in-32768.is)

pub returns-in-33024 : goal.returns-in-33024
unfolding callback_of
returns-in-33024 c = ap (λ (r : ℕ). callback_of (r / 256)) (sym c.in-33024.is)

pub returns-in-33280 : goal.returns-in-33280
unfolding callback_of
returns-in-33280 c = ap (λ (r : ℕ). callback_of (r / 256)) (sym c.in-33280.is)

pub returns-in_default : goal.returns-in_default
returns-in_default c =
    last c.args.row c.requires (omega arith) (λ e. omega (arith, e)) (λ e. omega (arith, e)) (λ e. omega (arith, e))
