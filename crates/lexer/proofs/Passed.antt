-- The loop over a text's tokens: what holds where those up to byte `at` are passed, and their rows, `index` numbers,
-- are written as far as they fit.
use Prim.Native.Nat.{ℕ, suc, ◌+◌, ◌-◌, ◌*◌, ◌≤◌, ◌<◌}
use native.Mathlib.Omega.{arith}
use mathlib.Core.Path.{◌≡◌, refl, sym, ◌∙◌, ap}
use mathlib.Core.Bool.{Bool, true, false, cond}
use mathlib.Core.List.{List, [], ◌∷◌, ◌++◌, append_assoc, append-nil}
use lib.Dec.{ltb}
use lib.ListN.{length, take, drop, set, length-set, take-append-drop}
use lib.Seq.{take-suc-set, drop-set-lt, drop-drop}
use borrow.Author.Tests.{lt-ltb}
use Rattle.definitions.specs.Lex.{a_token, next_token, lex}
use Rattle.definitions.specs.Text.{found_at, is_directive, directive, numbers_of}
use Rattle.lexing.proofs.Lengths.{TokenAt, token_at, at_end}
use Rattle.lexer.specs.Found.{TokenHere, put_row, Lexes}
use Rattle.std.specs.Prelude.{Ok, Err}

-- ---------------------------------------------------------------- a row

pub length_put : (rows : List ℕ) (i kind len : ℕ) → length (put_row rows i kind len) ≡ length rows
unfolding put_row
length_put rows i kind len = go (ltb (i + 1) (length rows))
  where
    go : (fits : Bool) → length (cond fits (set (set rows i kind) (i + 1) len) rows) ≡ length rows
    go true = simp length-set
    go false = refl

module _ (rows : List ℕ) (i kind len : ℕ) (h : i + 1 < length rows) where
  put_fits : put_row rows i kind len ≡ set (set rows i kind) (i + 1) len
  unfolding put_row
  put_fits = rw (lt-ltb (i + 1) (length rows) h)

  put_taken : take (i + 2) (put_row rows i kind len) ≡ take i rows ++ kind ∷ len ∷ []
  put_taken =
      let e : i + 2 ≡ suc (suc i) = omega arith in
      let f : i + 1 ≡ suc i = omega arith in
      let g : suc i < length (set rows i kind) = rw (length-set rows i kind) (omega (arith, h)) in
      rw (put_fits, e, f, take-suc-set (set rows i kind) (suc i) len g, take-suc-set rows i kind (omega (arith, h)), append_assoc)

  put_left : drop (i + 2) (put_row rows i kind len) ≡ drop (i + 2) rows
  put_left = rw put_fits (drop-set-lt (i + 2) (set rows i kind) (i + 1) len (omega arith) ∙ drop-set-lt (i + 2) rows i kind (omega arith))

-- ---------------------------------------------------------------- what the loop holds

-- all numbers fit into the buffer
abbrev pub AllFit : List ℕ → List ℕ → Type 0
AllFit bytes rows = length (numbers_of (lex bytes)) ≤ length rows

-- rows₀: the buffer before
pub record Passed (bytes rows₀ rows : List ℕ) (at index : ℕ) : Type 0 where
  pub inside : at ≤ length bytes
  pub few : index ≤ 2 * at
  pub same_length : length rows ≡ length rows₀
  pub found : directive at (drop at bytes) (lex (drop at bytes)) ≡ directive 0 bytes (lex bytes)
  pub counted : index + length (numbers_of (lex (drop at bytes))) ≡ length (numbers_of (lex bytes))
  pub written : AllFit bytes rows₀ → take index rows ++ numbers_of (lex (drop at bytes)) ≡ numbers_of (lex bytes)
  pub rest : AllFit bytes rows₀ → drop index rows ≡ drop index rows₀

-- ---------------------------------------------------------------- a token

module _ (bytes rows₀ rows : List ℕ) (at index : ℕ) (p : Passed bytes rows₀ rows at index) (h : at < length bytes) where
  here : (k n : ℕ) → a_token k n ≡ next_token (drop at bytes) → TokenAt bytes at k n
  here k n e = token_at bytes at k n h e

  split : (k n : ℕ) → TokenAt bytes at k n → numbers_of (lex (drop at bytes)) ≡ k ∷ n ∷ numbers_of (lex (drop (at + n) bytes))
  unfolding numbers_of
  split k n t = ap numbers_of t.first

  further : (k n : ℕ) → TokenAt bytes at k n
      → directive at (drop at bytes) (lex (drop at bytes))
      ≡ cond (is_directive (drop at bytes)) (found_at at) (directive (at + n) (drop (at + n) bytes) (lex (drop (at + n) bytes)))
  unfolding directive
  further k n t = rw (t.first, drop-drop n at bytes)

  past : (k n : ℕ) → TokenAt bytes at k n → is_directive (drop at bytes) ≡ false
      → Passed bytes rows₀ (put_row rows index k n) (at + n) (index + 2)
  past k n t d =
      let s = split k n t in
      let more = numbers_of (lex (drop (at + n) bytes)) in
      let c : index + 2 + length more ≡ length (numbers_of (lex bytes)) = omega (arith, p.counted, ap length s) in
      record {
        inside = t.inside;
        few = omega (arith, p.few, t.some);
        same_length = length_put rows index k n ∙ p.same_length;
        found = sym (further k n t ∙ rw d) ∙ p.found;
        counted = c;
        written = λ f. rw (put_taken rows index k n (omega (arith, f, c, p.same_length)), append_assoc) (rw (← s) (p.written f));
        rest = λ f.
            put_left rows index k n (omega (arith, f, c, p.same_length)) ∙ sym (drop-drop 2 index rows) ∙ ap (drop 2) (p.rest f)
            ∙ drop-drop 2 index rows₀;
      }

  pub past_token : (kind end : ℕ) → TokenHere bytes at kind end → false ≡ is_directive (drop at bytes)
      → Passed bytes rows₀ (put_row rows index kind (end - at)) end (index + 2)
  past_token kind end t d =
      let e : end ≡ at + t.len = t.ends in
      let n : end - at ≡ t.len = omega (arith, e) in
      let q : Passed bytes rows₀ (put_row rows index kind t.len) (at + t.len) (index + 2) =
      past kind t.len (here kind t.len t.token) (sym d) in
      rw (n, e) q

  pub at_directive : true ≡ is_directive (drop at bytes) → Lexes bytes rows₀ rows (Err (record { at = at }))
  at_directive d =
      let t = next_token (drop at bytes) in
      record {
        found = sym (further t.kind t.len (here t.kind t.len refl) ∙ rw (← d)) ∙ p.found;
        inside = h;
        counted = λ n e. cc;
        written = λ n e f. cc;
        same_length = p.same_length;
      }

pub at_last : (bytes rows₀ rows : List ℕ) (at index : ℕ) → Passed bytes rows₀ rows at index → length bytes ≤ at
    → Lexes bytes rows₀ rows (Ok index)
unfolding directive numbers_of
at_last bytes rows₀ rows at index p h =
    let e = at_end bytes at h in
    let c : index ≡ length (numbers_of (lex bytes)) = omega (arith, rw e at p.counted) in
    record {
      found = rw e at p.found;
      inside = tt;
      counted = λ n i. let j : n ≡ index = cc in j ∙ c;
      written = λ n i f.
          let j : n ≡ index = cc in
          let g : AllFit bytes rows₀ = omega (arith, f, j, c) in
          let w : take index rows ≡ numbers_of (lex bytes) = sym (append-nil (take index rows)) ∙ (rw e at (p.written g)) in
          sym (take-append-drop index rows) ∙ (λ k. w k ++ (p.rest g) k)
          ∙ ap (λ (x : ℕ). numbers_of (lex bytes) ++ drop x rows₀) (sym j);
      same_length = p.same_length;
    }
