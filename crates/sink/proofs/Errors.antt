-- The lexical error rows are the error tokens, in order.
use native.Mathlib.Omega.{arith}
use Prim.Native.Nat.{ℕ, suc, ◌+◌, ◌*◌, ◌≤◌, ◌<◌}
use mathlib.Core.List.{List, [], ◌∷◌, ◌++◌, append_assoc, append-nil}
use mathlib.Core.Path.{◌≡◌, refl, sym, ◌∙◌, ap}
use mathlib.Core.Bool.{Bool, true, false, cond}
use lib.ListN.{length, drop, length-append, length-drop}
use lib.Seq.{drop-drop}
use Rattle.basics.specs.Word.{low}
use Rattle.basics.proofs.TokenRows.{tokens_length}
use Rattle.definitions.specs.Layout.{ERROR_ROW, TWO_TO_32}
use Rattle.definitions.specs.Token.{Token, tokens_of, is_error, byte_count}
use Rattle.definitions.specs.Place.{lexical_errors}
use Rattle.laws.specs.Lossless.{errors_in}
use Rattle.sink_tokens.specs.Tokens.{put_error, Log, log, logged, errorsN, errors_on}
use Rattle.sink.proofs.Grow.{low_small, row_seam}
use Rattle.sink.proofs.Steps.{From, from_kind, from_len, from_past}

abbrev pub found : Log → ℕ
found (log n e) = n

pub errors_few : (ts : List Token) → errors_in ts ≤ length ts
unfolding errors_in
errors_few [] = omega arith
errors_few (t ∷ ts) = go (errors_few ts) (is_error t.kind)
  where
    go : errors_in ts ≤ length ts → (x : Bool) → cond x (suc (errors_in ts)) (errors_in ts) ≤ suc (length ts)
    go h true = omega arith
    go h false = omega arith

put_error_seam : (row : ℕ) (t r x : List ℕ) → length t ≡ row * ERROR_ROW → length r ≡ ERROR_ROW → ERROR_ROW ≤ length x → put_error row r (t ++ x) ≡ t ++ (r ++ drop ERROR_ROW x)
put_error_seam row t r x e n h = row_seam ERROR_ROW (row * ERROR_ROW) t r x e n h

module _ (tokens : List ℕ) where
  step : (t : Token) (ts : List Token) (at b : ℕ) (x : Log) → From tokens at (t ∷ ts)
      → errorsN (suc (length ts)) tokens at b x ≡ errorsN (length ts) tokens (at + 1) (low (b + t.len)) (logged t.kind b (low (b + t.len)) x)
  unfolding errorsN
  step t ts at b x e = rw (← (from_kind tokens at t ts e), ← (from_len tokens at t ts e))

  -- the count, whatever the buffer
  count_runs : (ts : List Token) (at b : ℕ) (x : Log) → From tokens at ts → found x + length ts < TWO_TO_32 → found (errorsN (length ts) tokens at b x) ≡ found x + errors_in ts
  unfolding errorsN errors_in logged is_error
  count_runs [] at b x e h = omega arith
  count_runs (t ∷ ts) at b (log n l) e h =
      ap found (step t ts at b (log n l) e) ∙ go (λ y g. count_runs ts (at + 1) (low (b + t.len)) y (from_past tokens at 1 (t ∷ ts) ts e refl) g) (is_error t.kind) refl
    where
      go : ((y : Log) → found y + length ts < TWO_TO_32 → found (errorsN (length ts) tokens (at + 1) (low (b + t.len)) y) ≡ found y + errors_in ts) → (x : Bool) → is_error t.kind ≡ x
          → found (errorsN (length ts) tokens (at + 1) (low (b + t.len)) (logged t.kind b (low (b + t.len)) (log n l))) ≡ n + cond x (suc (errors_in ts)) (errors_in ts)
      go ih true p =
          let m : low (n + 1) ≡ n + 1 = low_small (n + 1) (omega arith) in
          rw (p, m) (ih (log (n + 1) _) (omega arith) ∙ (let z : n + 1 + errors_in ts ≡ n + suc (errors_in ts) = omega arith in z))
      go ih false p = rw p (ih (log n l) (omega arith))

  -- the rows, where they fit
  log_runs : (ts : List Token) (at b n : ℕ) (L G : List ℕ) → From tokens at ts → length L ≡ n * ERROR_ROW → n + length ts < TWO_TO_32 → b + byte_count ts < TWO_TO_32 → length (lexical_errors b ts) ≤ length G
      → errorsN (length ts) tokens at b (log n (L ++ G)) ≡ log (n + errors_in ts) ((L ++ lexical_errors b ts) ++ drop (length (lexical_errors b ts)) G)
  unfolding errors_in lexical_errors logged is_error byte_count errorsN
  log_runs [] at b n L G e w h hb r = let z : n + 0 ≡ n = omega arith in rw (z, append-nil L)
  log_runs (t ∷ ts) at b n L G e w h hb r =
      let end : low (b + t.len) ≡ b + t.len = low_small (b + t.len) (omega arith) in
      step t ts at b (log n (L ++ G)) e
      ∙ ap (λ y. errorsN (length ts) tokens (at + 1) y (logged t.kind b y (log n (L ++ G)))) end
      ∙ (go (λ m M H u v x. log_runs ts (at + 1) (b + t.len) m M H (from_past tokens at 1 (t ∷ ts) ts e refl) u v (omega arith) x) (is_error t.kind) refl r)
    where
      go : ((m : ℕ) (M H : List ℕ) → length M ≡ m * ERROR_ROW → m + length ts < TWO_TO_32 → length (lexical_errors (b + t.len) ts) ≤ length H
          → errorsN (length ts) tokens (at + 1) (b + t.len) (log m (M ++ H)) ≡ log (m + errors_in ts) ((M ++ lexical_errors (b + t.len) ts) ++ drop (length (lexical_errors (b + t.len) ts)) H))
          → (x : Bool) → is_error t.kind ≡ x
          → length (cond x (t.kind ∷ b ∷ (b + t.len) ∷ lexical_errors (b + t.len) ts) (lexical_errors (b + t.len) ts)) ≤ length G
          → errorsN (length ts) tokens (at + 1) (b + t.len) (logged t.kind b (b + t.len) (log n (L ++ G)))
          ≡ log (n + cond x (suc (errors_in ts)) (errors_in ts)) ((L ++ cond x (t.kind ∷ b ∷ (b + t.len) ∷ lexical_errors (b + t.len) ts) (lexical_errors (b + t.len) ts)) ++ drop (length (cond x (t.kind ∷ b ∷ (b + t.len) ∷ lexical_errors (b + t.len) ts) (lexical_errors (b + t.len) ts))) G)
      go ih false p r = rw p (ih n L G w (omega arith) r)
      go ih true p r =
          let row : List ℕ = t.kind ∷ b ∷ (b + t.len) ∷ [] in
          let m : low (n + 1) ≡ n + 1 = low_small (n + 1) (omega arith) in
          let put : put_error n row (L ++ G) ≡ (L ++ row) ++ drop ERROR_ROW G = put_error_seam n L row G w refl (omega arith) ∙ sym (append_assoc L row (drop ERROR_ROW G)) in
          let z : n + 1 + errors_in ts ≡ n + suc (errors_in ts) = omega arith in
          let y : ERROR_ROW + length (lexical_errors (b + t.len) ts) ≡ suc (suc (suc (length (lexical_errors (b + t.len) ts)))) = omega arith in
          rw (p, m, put)
          (ih (n + 1) (L ++ row) (drop ERROR_ROW G) (omega (arith, length-append L row)) (omega arith) (omega (arith, length-drop ERROR_ROW G))
          ∙ rw (z, append_assoc L row (lexical_errors (b + t.len) ts), drop-drop (length (lexical_errors (b + t.len) ts)) ERROR_ROW G, y))

  -- ---------------------------------------------------------------- over all tokens

  pub errors_count : (e : List ℕ) → length tokens < TWO_TO_32 → found (errors_on tokens e) ≡ errors_in (tokens_of tokens)
  unfolding errors_on
  errors_count e h =
      let z : 0 + errors_in (tokens_of tokens) ≡ errors_in (tokens_of tokens) = omega arith in
      ap (λ m. found (errorsN m tokens 0 0 (log 0 e))) (sym (tokens_length tokens)) ∙ count_runs (tokens_of tokens) 0 0 (log 0 e) refl (omega (arith, tokens_length tokens)) ∙ z

  pub errors_written : (e : List ℕ) → length tokens < TWO_TO_32 → byte_count (tokens_of tokens) < TWO_TO_32 → length (lexical_errors 0 (tokens_of tokens)) ≤ length e
      → errors_on tokens e ≡ log (errors_in (tokens_of tokens)) (lexical_errors 0 (tokens_of tokens) ++ drop (length (lexical_errors 0 (tokens_of tokens))) e)
  unfolding errors_on
  errors_written e h hb r =
      let z : 0 + errors_in (tokens_of tokens) ≡ errors_in (tokens_of tokens) = omega arith in
      ap (λ m. errorsN m tokens 0 0 (log 0 e)) (sym (tokens_length tokens)) ∙ log_runs (tokens_of tokens) 0 0 0 [] e refl refl (omega (arith, tokens_length tokens)) (omega arith) r ∙ rw z
