-- Both parse first: how a query ends, by how the parse ends.
use Prim.Native.Nat.{ℕ, suc, ◌+◌, ◌/◌, ◌%◌}
use native.Mathlib.Omega.{arith}
use mathlib.Core.Path.{◌≡◌, refl, subst}
use mathlib.Core.Bool.{Bool, true, false, ◌&&◌}
use mathlib.Core.Logic.{inl, inr, ⊎_elim}
use mathlib.Core.List.{List, [], ◌∷◌}
use lib.Dec.{leb, eqb}
use lib.ListN.{length, drop, take}
use borrow.Author.Tests.{eqb-true, eqb-false, le-leb, lt-leb}
use Rattle.basics.proofs.Tests.{cond-all}
use Rattle.definitions.specs.Layout.{TOKEN_ROW, MOST_BYTES, MOST_TOKEN_NUMBERS}
use Rattle.definitions.specs.Token.{Token, tokens_of}
use Rattle.definitions.specs.StaticText.{static_texts, fits_text}
use Rattle.definitions.specs.Grammar.{SourceFile}
use Rattle.definitions.specs.Refusal.{Refusal, too_long, odd_count, bad_kind, zero_length, past_input, short_total, number_of, place_of, Verdict, accepted, refused, unless, ◌or_else◌, check_sizes, check_texts}
use Rattle.definitions.specs.RowCauses.{check_count, is_kind, check_row, check_rows, check_input}
use Rattle.definitions.specs.Call.{Buffers, Result, parse, call, asked, checked, entry_of}
use Rattle.definitions.specs.Caret.{Query, listed, source_tree, with_list, checked_query, query_call}
use Rattle.laws.proofs.Accepted.{refusal_number}
use Rattle.laws.proofs.Input.{checked_input}
use Rattle.refusals.specs.Answered.{BeforeTheParse, InTheParse}
use Rattle.refusals.proofs.Late.{Late, late}
use Rattle.queries.specs.AsParsed.{EndsAsParsed, AsParsed}
use Rattle.queries.proofs.Parsed.{parse_is_call}

-- ---------------------------------------------------------------- the causes before the parse

abbrev Early : Verdict → Type 0
Early accepted = Unit {0}
Early (refused r) = BeforeTheParse (number_of r)

early_or : (v w : Verdict) → Early v → Early w → Early (v or_else w)
unfolding ◌or_else◌
early_or accepted w a b = b
early_or (refused r) w a b = a

early_unless : (t : Bool) (r : Refusal) → BeforeTheParse (number_of r) → Early (unless t r)
early_unless true r h = tt
early_unless false r h = h

early_row : (i start size : ℕ) (t : Token) → Early (check_row i start size t)
unfolding check_row number_of
early_row i start size t =
    let a = unless (is_kind t.kind) (bad_kind i) in
    let b = unless (leb 1 t.len) (zero_length i) in
    let c = unless (leb (start + t.len) size) (past_input i) in
    early_or a (b or_else c) (early_unless (is_kind t.kind) (bad_kind i) (inr (omega arith, omega arith)))
    (early_or b c (early_unless (leb 1 t.len) (zero_length i) (inr (omega arith, omega arith)))
    (early_unless (leb (start + t.len) size) (past_input i) (inr (omega arith, omega arith))))

early_rows : (i start size : ℕ) (ts : List Token) → Early (check_rows i start size ts)
unfolding check_rows number_of
early_rows i start size [] = early_unless (eqb start size) (short_total i) (inr (omega arith, omega arith))
early_rows i start size (t ∷ ts) = early_or (check_row i start size t) (check_rows (suc i) (start + t.len) size ts) (early_row i start size t) (early_rows (suc i) (start + t.len) size ts)

early_texts : (i : ℕ) (bytes : List ℕ) (ts : List Token) → Early (check_texts i bytes ts)
unfolding check_texts number_of
early_texts i bytes [] = tt
early_texts i bytes (t ∷ ts) =
    cond-all Early (fits_text static_texts t.kind (take t.len bytes)) (early_texts (suc i) (drop t.len bytes) ts) (inl (omega arith, omega arith))

early_input : (bytes tokens : List ℕ) → Early (check_input bytes tokens)
unfolding check_input check_sizes check_count number_of
early_input bytes tokens =
    let rows = check_rows 0 0 (length bytes) (tokens_of tokens) in
    let texts = check_texts 0 bytes (tokens_of tokens) in
    early_or (check_sizes bytes tokens) (check_count tokens or_else rows or_else texts)
    (early_unless (leb (length bytes) MOST_BYTES && leb (length tokens) MOST_TOKEN_NUMBERS) too_long (inl (omega arith, omega arith)))
    (early_or (check_count tokens) (rows or_else texts) (early_unless (eqb (length tokens % TOKEN_ROW) 0) (odd_count (length tokens / TOKEN_ROW)) (inl (omega arith, omega arith)))
    (early_or rows texts (early_rows 0 0 (length bytes) (tokens_of tokens)) (early_texts 0 bytes (tokens_of tokens))))

-- ---------------------------------------------------------------- by the checks, and by the parse

module _ (q : Query) (setting : ℕ) (bytes tokens : List ℕ) (b : Buffers) (list : List ℕ) where
  abbrev l : List ℕ
  l = listed q (length bytes) (source_tree (tokens_of tokens))

  abbrev ended : Verdict → Type 0
  ended v = EndsAsParsed b list l (checked v SourceFile setting bytes tokens b) (checked_query v q setting bytes tokens b list)

  -- refused before the parse
  by_checks : (r : Refusal) → BeforeTheParse (number_of r) → ended (refused r)
  unfolding checked checked_query
  by_checks r h =
      record {
        refused = λ n. (refl, (refl, refl));
        left_alone = λ n. refl;
        cleared = λ n. absurd (⊎_elim (λ x. (let z : ⊥ = omega (arith, x.0, x.1, n.0, n.1) in z)) (λ x. (let z : ⊥ = omega (arith, x.0, x.1, n.0, n.1) in z)) h);
        kept = λ n f. absurd (refusal_number r n);
        full = λ n f. absurd (refusal_number r n);
      }

  abbrev WithParse : Result → Type 0
  WithParse r = EndsAsParsed b list l r (with_list l list b r)

  -- refused by the parse
  stopped_parse : (r : Result) → eqb r.answer.number 0 ≡ false → InTheParse r.answer.number → WithParse r
  unfolding with_list
  stopped_parse r e h =
      let n = eqb-false r.answer.number 0 e in
      rw e record {
        refused = λ x. (refl, (refl, refl));
        left_alone = λ x. absurd (⊎_elim (λ y. (let z : ⊥ = omega (arith, y.0, y.1, h.0, h.1) in z)) (λ y. (let z : ⊥ = omega (arith, y.0, y.1, h.0, h.1) in z)) x);
        cleared = λ x. refl;
        kept = λ x f. absurd (n x);
        full = λ x f. absurd (n x);
      }

  -- accepted
  parsed : (r : Result) → eqb r.answer.number 0 ≡ true → WithParse r
  unfolding with_list number_of place_of
  parsed r e =
      let z = eqb-true r.answer.number 0 e in
      rw e record {
        refused = λ x. absurd (x z);
        left_alone = λ x. absurd (⊎_elim (λ y. (let w : ⊥ = omega (arith, y.0, z) in w)) (λ y. (let w : ⊥ = omega (arith, y.0, z) in w)) x);
        cleared = λ x. absurd (let w : ⊥ = omega (arith, x.0, z) in w);
        kept = λ x f. rw (le-leb (length l) (length list) f) (refl, (refl, (refl, refl)));
        full = λ x f. rw (lt-leb (length l) (length list) f) (
          record { number = refl; place = refl; tree_count = refl; error_count = refl; report_count = refl; expectation_count = refl },
          (record { events = refl; trees = refl; errors = refl; reports = refl; pool = refl }, (refl, refl)),
        );
      }

  by_parse : (r : Result) → Late r.answer.number → WithParse r
  by_parse r h = go (eqb r.answer.number 0) refl
    where
      go : (t : Bool) → eqb r.answer.number 0 ≡ t → WithParse r
      go true e = parsed r e
      go false e = stopped_parse r e (⊎_elim (λ x. absurd (eqb-false r.answer.number 0 e x)) (λ x. x) h)

  by_verdict : (v : Verdict) → check_input bytes tokens ≡ v → Early v → ended v
  unfolding checked checked_query
  by_verdict (refused r) e h = by_checks r h
  by_verdict accepted e h =
      let c = checked_input bytes tokens e in
      let k = late 1 setting bytes tokens b SourceFile refl (c.bytes_limit, c.numbers_limit) e in
      by_parse (parse SourceFile setting bytes (tokens_of tokens) b) (subst (λ (r : Result). Late r.answer.number) (parse_is_call setting bytes tokens b e) k)

-- BOTH PARSE FIRST
pub as_parsed : AsParsed
unfolding call asked entry_of query_call
as_parsed q setting bytes tokens b list = by_verdict q setting bytes tokens b list (check_input bytes tokens) refl (early_input bytes tokens)
