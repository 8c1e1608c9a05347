-- Searches: the place of the first byte that passes a test, one byte further.
use Rattle.std.proofs.Common.{◌≡◌, ℕ, zero, suc, ◌+◌, ◌<◌, ◌≤◌, Bool, true, false, List, [], ◌∷◌, length, get_or, take, drop, length-drop, ◌-◌, refl, ap, arith, ◌∙◌, sym, add-one, drop-cons}
use Rattle.std.specs.Prelude.{cond, not, eqb, ltb, position, option_map, unwrap_or, MatchOption, Option, Some, None, ◌||◌, ◌&&◌}
use Rattle.std.specs.List.{prefix_len}
use Rattle.std.proofs.Math.Seq.{take-length}
use lib.ListN.{drop_of_length-le}
use Rattle.std.proofs.lemmas.List.Sums.{prefix_len-le-length}
use borrow.Author.Tests.{ltb-true, ltb-false, lt-ltb, le-ltb}
use Rattle.definitions.specs.Lex.{End, ended, unexpected_end, one_more, comment_end, quote_end, bracket_end}
use Rattle.definitions.specs.Text.{after_blanks}
use Rattle.lexer.specs.Found.{end_of}

-- a slice from n on
pub tail : (s : List ℕ) (n : ℕ) → take (length s - n) (drop n s) ≡ drop n s
tail s n = rw (← length-drop n s) (take-length (drop n s))

-- ---------------------------------------------------------------- the first byte that passes a test

first_test : (b : Bool) (k m : ℕ)
    → cond (ltb (cond (not b) (1 + k) 0) (suc m)) (Some (cond (not b) (1 + k) 0)) None
    ≡ cond b (Some 0) (option_map (λ n. n + 1) (cond (ltb k m) (Some k) None))
first_test true k m = let f : ltb 0 (suc m) ≡ true = lt-ltb 0 (suc m) (omega arith) in rw f
first_test false k m = go (ltb k m) refl
  where
    go : (c : Bool) → ltb k m ≡ c
        → cond (ltb (1 + k) (suc m)) (Some (1 + k)) None ≡ option_map (λ n. n + 1) (cond c (Some k) None)
    go true e =
        let f : ltb (1 + k) (suc m) ≡ true = lt-ltb (1 + k) (suc m) (omega (arith, ltb-true k m e)) in
        let g : 1 + k ≡ k + 1 = omega arith in
        rw (f, g)
    go false e =
        let f : ltb (1 + k) (suc m) ≡ false = le-ltb (1 + k) (suc m) (omega (arith, ltb-false k m e)) in
        rw f

pub position_cons : (t : ℕ → Bool) (x : ℕ) (xs : List ℕ) → position t (x ∷ xs) ≡ cond (t x) (Some 0) (option_map (λ n. n + 1) (position t xs))
position_cons t x xs = first_test (t x) (prefix_len (λ y. not (t y)) xs) (length xs)

-- how many stand before it
pub before_first : {A : Type 0} (t : A → Bool) (xs : List A) → unwrap_or (position t xs) (length xs) ≡ prefix_len (λ x. not (t x)) xs
before_first t xs = go (ltb n (length xs)) refl
  where
    n : ℕ
    n = prefix_len (λ x. not (t x)) xs

    go : (b : Bool) → ltb n (length xs) ≡ b → unwrap_or (cond b (Some n) None) (length xs) ≡ n
    go true e = refl
    go false e = omega (arith, ltb-false n (length xs) e, prefix_len-le-length (λ x. not (t x)) xs)

one_further : (r : Option ℕ) → end_of (option_map (λ n. n + 1) (option_map (λ n. n + 1) r)) ≡ one_more (end_of (option_map (λ n. n + 1) r))
one_further None = refl
one_further (Some n) = let e : n + 1 + 1 ≡ suc (n + 1) = omega arith in rw e

pub bracket_found : (s : List ℕ) → end_of (option_map (λ n. n + 1) (position (λ b. eqb b 93) s)) ≡ bracket_end s
unfolding bracket_end
bracket_found [] = refl
bracket_found (b ∷ s) = rw (position_cons (λ b. eqb b 93) b s) (go (eqb b 93) (bracket_found s))
  where
    go : (t : Bool) → end_of (option_map (λ n. n + 1) (position (λ b. eqb b 93) s)) ≡ bracket_end s
        → end_of (option_map (λ n. n + 1) (cond t (Some 0) (option_map (λ n. n + 1) (position (λ b. eqb b 93) s))))
        ≡ cond t (ended 1) (one_more (bracket_end s))
    go true h = refl
    go false h = one_further (position (λ b. eqb b 93) s) ∙ ap one_more h

-- ---------------------------------------------------------------- blanks

abbrev pub blank : ℕ → Bool
blank b = eqb b 32 || eqb b 9

pub past_blanks : (s : List ℕ) → drop (prefix_len (λ b. not (not (blank b))) s) s ≡ after_blanks s
unfolding after_blanks
past_blanks [] = refl
past_blanks (b ∷ s) = go (blank b) (past_blanks s)
  where
    n : ℕ
    n = prefix_len (λ b. not (not (blank b))) s

    go : (t : Bool) → drop n s ≡ after_blanks s → drop (cond (not (not t)) (1 + n) 0) (b ∷ s) ≡ cond t (after_blanks s) (b ∷ s)
    go true h = let e : 1 + n ≡ suc n = omega arith in rw e h
    go false h = refl

-- ---------------------------------------------------------------- a star with a slash behind it

abbrev pub closes : List ℕ → ℕ → Bool
closes s k = eqb (get_or s k 0) 42 && eqb (get_or s (k + 1) 0) 47

abbrev pub FirstClosing : List ℕ → Option ℕ → Type 0
FirstClosing s r =
    MatchOption r ((k : ℕ) → k + 2 ≤ length s → closes s k ≡ false)
    (λ n. (n + 2 ≤ length s) × (closes s n ≡ true) × ((k : ℕ) → k < n → closes s k ≡ false))

and_false : (b : Bool) → (b && false) ≡ false
and_false true = refl
and_false false = refl

-- one byte further
closes_cons : (b : ℕ) (s : List ℕ) (k : ℕ) → closes (b ∷ s) (suc k) ≡ closes s k
closes_cons b s k = let e : suc k + 1 ≡ suc (k + 1) = omega arith in rw e

none_closes : (s : List ℕ) → ((k : ℕ) → k + 2 ≤ length s → closes s k ≡ false) → unexpected_end ≡ comment_end s
unfolding comment_end
none_closes [] h = refl
none_closes (b ∷ []) h = rw (and_false (eqb b 42))
none_closes (b ∷ d ∷ s) h =
    rw (h 0 (omega arith))
    (ap one_more (none_closes (d ∷ s) (λ k l. sym (closes_cons b (d ∷ s) k) ∙ h (suc k) (omega (arith, l)))))

one_closes : (s : List ℕ) (n : ℕ) → n + 2 ≤ length s → closes s n ≡ true → ((k : ℕ) → k < n → closes s k ≡ false)
    → ended (n + 2) ≡ comment_end s
unfolding comment_end
one_closes [] n l e h = absurd (omega (arith, l))
one_closes (b ∷ []) n l e h = absurd (omega (arith, l))
one_closes (b ∷ d ∷ s) zero l e h = rw e
one_closes (b ∷ d ∷ s) (suc n) l e h =
    let f : suc n + 2 ≡ suc (n + 2) = omega arith in
    rw (f, h 0 (omega arith))
    (ap one_more (one_closes (d ∷ s) n (omega (arith, l)) (sym (closes_cons b (d ∷ s) n) ∙ e)
    (λ k i. sym (closes_cons b (d ∷ s) k) ∙ h (suc k) (omega (arith, i)))))

pub comment_found : (s : List ℕ) (r : Option ℕ) → FirstClosing s r → end_of (option_map (λ n. n + 2) r) ≡ comment_end s
comment_found s None h = none_closes s h
comment_found s (Some n) h = one_closes s n h.0 h.1 h.2

-- ---------------------------------------------------------------- a quote

-- an end that was found in the bytes from `from` on, as a place among all
abbrev pub placed : ℕ → End → End
placed from (ended m) = ended (from + m)
placed from unexpected_end = unexpected_end

placed_more : (n : ℕ) (e : End) → placed n (one_more e) ≡ placed (n + 1) e
placed_more n (ended m) = let y : n + suc m ≡ n + 1 + m = omega arith in rw y
placed_more n unexpected_end = refl

-- at byte n, where what is left comes to g
module _ (quote : ℕ) (escaped : Bool) (s : List ℕ) (n : ℕ) {g : End} (left : placed n (quote_end quote escaped (drop n s)) ≡ g) where
  abbrev pub closing : Bool
  closing = not escaped && eqb (get_or s n 0) quote

  abbrev pub escaping : Bool
  escaping = not escaped && eqb (get_or s n 0) 92

  quote_step : n < length s → quote_end quote escaped (drop n s) ≡ cond closing (ended 1) (one_more (quote_end quote escaping (drop (n + 1) s)))
  unfolding quote_end
  quote_step h = rw (add-one n, drop-cons s n 0 h)

  pub closed : n < length s → closing ≡ true → ended (n + 1) ≡ g
  closed h e =
      let f : quote_end quote escaped (drop n s) ≡ ended 1 = quote_step h ∙ rw e in
      sym (ap (placed n) f) ∙ left

  pub passed : (next : Bool) → n < length s → closing ≡ false → next ≡ escaping → placed (n + 1) (quote_end quote next (drop (n + 1) s)) ≡ g
  passed next h e f =
      let more = quote_end quote escaping (drop (n + 1) s) in
      let i : quote_end quote escaped (drop n s) ≡ one_more more = quote_step h ∙ rw e in
      rw f (sym (placed_more n more) ∙ sym (ap (placed n) i) ∙ left)

  pub no_quote : length s ≤ n → unexpected_end ≡ g
  unfolding quote_end
  no_quote h = sym (ap (λ (x : List ℕ). placed n (quote_end quote escaped x)) (drop_of_length-le s h)) ∙ left
