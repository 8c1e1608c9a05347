-- The rows of lexical errors are those of the error tokens, in order, each with its number and byte range.
use Prim.Native.Nat.{ℕ, suc, ◌+◌, ◌*◌}
use native.Mathlib.Nat.{zero-add, add-zero, add_assoc}
use native.Mathlib.Omega.{arith}
use mathlib.Core.Path.{◌≡◌, refl, ap, sym, ◌∙◌}
use mathlib.Core.Bool.{Bool, true, false, cond}
use mathlib.Core.List.{List, [], ◌∷◌, ◌++◌, append_assoc}
use lib.ListN.{length, take, drop}
use lib.Seq.{drop_at}
use Rattle.definitions.specs.Layout.{ERROR_ROW}
use Rattle.definitions.specs.Token.{Token, is_error, byte_count}
use Rattle.definitions.specs.Place.{lexical_errors}
use Rattle.laws.specs.Lossless.{errors_in, ErrorsOf}

-- three numbers for each
pub errors_length : (at : ℕ) (ts : List Token) → length (lexical_errors at ts) ≡ ERROR_ROW * errors_in ts
unfolding lexical_errors errors_in
errors_length at [] = refl
errors_length at (t ∷ ts) = go (is_error t.kind) (errors_length (at + t.len) ts)
  where
    go : (b : Bool) → length (lexical_errors (at + t.len) ts) ≡ ERROR_ROW * errors_in ts
        → length (cond b (t.kind ∷ at ∷ (at + t.len) ∷ lexical_errors (at + t.len) ts) (lexical_errors (at + t.len) ts)) ≡ ERROR_ROW * cond b (suc (errors_in ts)) (errors_in ts)
    go true h = omega arith
    go false h = h

-- the errors of tokens after others
pub errors_append : (at : ℕ) (ts us : List Token) → lexical_errors at (ts ++ us) ≡ lexical_errors at ts ++ lexical_errors (at + byte_count ts) us
unfolding lexical_errors byte_count
errors_append at [] us = ap (λ (n : ℕ). lexical_errors n us) (sym (add-zero at))
errors_append at (t ∷ ts) us =
    go (is_error t.kind) (errors_append (at + t.len) ts us ∙ ap (λ (n : ℕ). lexical_errors (at + t.len) ts ++ lexical_errors n us) (add_assoc at t.len (byte_count ts)))
  where
    go : (b : Bool) → lexical_errors (at + t.len) (ts ++ us) ≡ lexical_errors (at + t.len) ts ++ lexical_errors (at + (t.len + byte_count ts)) us
        → cond b (t.kind ∷ at ∷ (at + t.len) ∷ lexical_errors (at + t.len) (ts ++ us)) (lexical_errors (at + t.len) (ts ++ us))
        ≡ cond b (t.kind ∷ at ∷ (at + t.len) ∷ lexical_errors (at + t.len) ts) (lexical_errors (at + t.len) ts) ++ lexical_errors (at + (t.len + byte_count ts)) us
    go true h = ap (λ (l : List ℕ). t.kind ∷ at ∷ (at + t.len) ∷ l) h
    go false h = h

-- an error token's own row
first_error : (at : ℕ) (t : Token) (ts : List Token) → is_error t.kind ≡ true → lexical_errors at (t ∷ ts) ≡ t.kind ∷ at ∷ (at + t.len) ∷ lexical_errors (at + t.len) ts
unfolding lexical_errors
first_error at t ts e = ap (λ (b : Bool). cond b (t.kind ∷ at ∷ (at + t.len) ∷ lexical_errors (at + t.len) ts) (lexical_errors (at + t.len) ts)) e

-- EACH ERROR TOKEN HAS ITS ROW, whatever stands after the rows
pub errors_of : (ts : List Token) (l : List ℕ) → ErrorsOf ts (lexical_errors 0 ts ++ l)
errors_of ts l before after t e f =
    let a : List ℕ = lexical_errors 0 before in
    let z : lexical_errors 0 ts ++ l ≡ a ++ (t.kind ∷ byte_count before ∷ (byte_count before + t.len) ∷ (lexical_errors (byte_count before + t.len) after ++ l)) =
    ap (◌++ l) (ap (lexical_errors 0) e ∙ errors_append 0 before (t ∷ after) ∙ ap (λ (n : ℕ). a ++ lexical_errors n (t ∷ after)) (zero-add (byte_count before)) ∙ ap (a ++◌) (first_error (byte_count before) t after f))
    ∙ append_assoc a _ l in
    ap (λ (x : List ℕ). take ERROR_ROW (drop (ERROR_ROW * errors_in before) x)) z
    ∙ ap (take ERROR_ROW) (drop_at a _ (ERROR_ROW * errors_in before) (errors_length 0 before))
