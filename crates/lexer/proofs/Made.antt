-- From a match and a callback's answer to the token.
use Prim.Native.Nat.{ℕ, ◌+◌, ◌/◌, ◌<◌}
use mathlib.Core.Path.{◌≡◌, refl, sym, ◌∙◌, ap}
use mathlib.Core.Bool.{Bool, true, false, cond}
use mathlib.Core.List.{List}
use native.Mathlib.Omega.{arith}
use Rattle.std.specs.Prelude.{Option, Some, None, ok_or}
use lib.Dec.{eqb}
use lib.ListN.{get_or, length, drop}
use lib.Seq.{drop-drop}
use borrow.Author.Tests.{eq-eqb, ne_eqb}
use Rattle.definitions.specs.LexError as L
use Rattle.definitions.specs.Token.{Token}
use Rattle.definitions.specs.Rules.{Callback, no_callback, lex_block_comment, lex_string, lex_char, lex_bytestring}
use Rattle.definitions.specs.Lex.{Match, no_match, matched, End, ended, unexpected_end, comment_end, quote_end, bracket_end, a_token, close, finish, made_of, next_token}
use Rattle.lexing.proofs.Lengths.{token_at}
use Rattle.lex_table.specs.States.{kinds}
use Rattle.lex_table.specs.Table.{kind_of_row}
use Rattle.lex_table.specs.Matches.{callback_of, match_of}
use Rattle.lexer.specs.Found.{end_of, closed, Hits, TokenHere}

-- ---------------------------------------------------------------- a callback's answer

-- with an error where there is no end
pub closed_or : (kind error n : ℕ) (rest : List ℕ) (c : Callback) (r : Option ℕ) {e : End} → end_of r ≡ e
    → finish n kind c rest ≡ close kind error n rest e → closed kind n rest (ok_or r error) ≡ finish n kind c rest
closed_or kind error n rest c r e f = go r ∙ ap (close kind error n rest) e ∙ sym f
  where
    go : (r : Option ℕ) → closed kind n rest (ok_or r error) ≡ close kind error n rest (end_of r)
    go (Some m) = refl
    go None = refl

-- ---------------------------------------------------------------- where a match starts

-- a token that starts `at` bytes before
abbrev from_before : ℕ → Token → Token
from_before at t = a_token t.kind (at + t.len)

close_before : (at k error n : ℕ) (rest : List ℕ) (e : End) → close k error (at + n) rest e ≡ from_before at (close k error n rest e)
close_before at k error n rest (ended m) = let z : at + n + m ≡ at + (n + m) = omega arith in rw z
close_before at k error n rest unexpected_end = let z : at + n + length rest ≡ at + (n + length rest) = omega arith in rw z

finish_before : (at n k : ℕ) (c : Callback) (rest : List ℕ) → finish (at + n) k c rest ≡ from_before at (finish n k c rest)
unfolding finish
finish_before at n k no_callback rest = refl
finish_before at n k lex_block_comment rest = close_before at k L.UnexpectedEndBlockComment n rest (comment_end rest)
finish_before at n k lex_string rest = close_before at k L.UnexpectedEndString n rest (quote_end 34 false rest)
finish_before at n k lex_char rest = close_before at k L.UnexpectedEndChar n rest (quote_end 39 false rest)
finish_before at n k lex_bytestring rest = close_before at k L.UnexpectedEndBytestring n rest (bracket_end rest)

-- ---------------------------------------------------------------- the token at a byte

here : (bytes : List ℕ) (at kind end len : ℕ) → at < length bytes → end ≡ at + len → a_token kind len ≡ next_token (drop at bytes)
    → TokenHere bytes at kind end
here bytes at kind end len h e t =
    let a = token_at bytes at kind len h t in
    record { len = len; ends = e; some = a.some; inside = omega (arith, e, a.inside); token = t }

module _ (bytes : List ℕ) (at row end : ℕ) (h : at < length bytes) (s : Hits bytes at row end) where
  -- b: whether nothing matches
  made : (b : Bool) → eqb s.state 0 ≡ b
      → made_of (cond b no_match (matched s.len (get_or kinds s.state 0) (callback_of s.state))) (drop at bytes)
      ≡ next_token (drop at bytes)
  unfolding next_token match_of
  made b y =
      ap (λ (x : Bool). made_of (cond x no_match (matched s.len (get_or kinds s.state 0) (callback_of s.state))) (drop at bytes))
      (sym y)
      ∙ ap (λ (m : Match). made_of m (drop at bytes)) s.hit

  number : row / 256 ≡ s.state
  number = omega (arith, s.held)

  pub none_here : row ≡ 0 → TokenHere bytes at L.Default (at + 1)
  unfolding made_of
  none_here z =
      let y : eqb s.state 0 ≡ true = eq-eqb s.state 0 (omega (arith, s.held, z)) in
      here bytes at L.Default (at + 1) 1 h refl (made true y)

  -- a match, as its callback finishes it
  finished : (k : ℕ) → (row ≡ 0 → ⊥) → k ≡ kind_of_row row
      → finish s.len k (callback_of (row / 256)) (drop end bytes) ≡ next_token (drop at bytes)
  unfolding made_of kind_of_row
  finished k z e =
      let y : eqb s.state 0 ≡ false = ne_eqb s.state 0 (λ x. z (omega (arith, s.held, x))) in
      let d : drop end bytes ≡ drop s.len (drop at bytes) =
      ap (λ (i : ℕ). drop i bytes) s.ends ∙ sym (drop-drop s.len at bytes) in
      (λ i. finish s.len ((e ∙ ap (λ (j : ℕ). get_or kinds j 0) number) i) (callback_of (number i)) (d i)) ∙ made false y

  pub plain_here : (k : ℕ) → (row ≡ 0 → ⊥) → k ≡ kind_of_row row → no_callback ≡ callback_of (row / 256) → TokenHere bytes at k end
  unfolding finish
  plain_here k z e p =
      here bytes at k end s.len h s.ends (ap (λ (c : Callback). finish s.len k c (drop end bytes)) p ∙ finished k z e)

  pub called_here : (k kind' end' : ℕ) {c : Callback} → (row ≡ 0 → ⊥) → k ≡ kind_of_row row → c ≡ callback_of (row / 256)
      → a_token kind' end' ≡ finish end k c (drop end bytes) → TokenHere bytes at kind' end'
  called_here k kind' end' z e p f =
      let t = finish s.len k (callback_of (row / 256)) (drop end bytes) in
      let g : a_token kind' end' ≡ from_before at t =
      f ∙ ap (λ (x : Callback). finish end k x (drop end bytes)) p
      ∙ ap (λ (i : ℕ). finish i k (callback_of (row / 256)) (drop end bytes)) s.ends
      ∙ finish_before at s.len k (callback_of (row / 256)) (drop end bytes) in
      here bytes at kind' end' t.len h (ap (λ (x : Token). x.len) g)
      ((λ i. a_token ((ap (λ (x : Token). x.kind) g) i) t.len) ∙ finished k z e)
