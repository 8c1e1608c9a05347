-- `texts_stay_local`: a lexer that starts again after a token finds the tokens that follow it, so that texts that are
-- alike after their semicolons have the same tokens there; the rest is recovery's `stays_local`.
use Prim.Native.Nat.{ℕ, suc, ◌+◌}
use native.Mathlib.Omega.{arith}
use mathlib.Core.Path.{◌≡◌, refl, sym, ap, ◌∙◌}
use mathlib.Core.List.{List, [], ◌∷◌, ◌++◌}
use lib.ListN.{length, drop}
use lib.Seq.{drop-drop}
use Rattle.definitions.specs.Token.{Token, tokens_of, byte_count}
use Rattle.definitions.specs.Lex.{next_token, lex}
use Rattle.definitions.specs.Call.{Result}
use Rattle.definitions.specs.Text.{numbers_of}
use Rattle.basics.proofs.Lists.{first_same, rest_same, none_some}
use Rattle.lexing.proofs.Lengths.{past_first, by_tokens}
use Rattle.lexing.proofs.RowsPass.{read_back}
use Rattle.rows.specs.ResultRows.{tree_rows}
use Rattle.recovery.specs.Recovery.{result, Accepted, Semicolon, token_index, start_byte}
use Rattle.recovery.proofs.Tail.{tail}
use Rattle.recovery.proofs.Local.{stays_local}
use Rattle.texts.specs.TextAnswered.{BeforeTheParse}
use Rattle.texts.specs.TextsLocal.{TextFile, TextAccepted, of_tokens, TextsStayLocal}
use Rattle.texts.proofs.Plain.{not_0}
use Rattle.texts.proofs.TextAnswered.{text_answered}

-- ---------------------------------------------------------------- the tokens after a token

abbrev StartsAgain : List ℕ → List Token → Type 0
StartsAgain s ts = (before : List Token) (t : Token) (behind : List Token) → ts ≡ before ++ (t ∷ behind)
    → lex (drop (byte_count before + t.len) s) ≡ behind

starts_again : (s : List ℕ) → StartsAgain s (lex s)
unfolding byte_count
starts_again s = by_tokens StartsAgain at_end at_first s
  where
    at_end : StartsAgain [] []
    at_end [] t behind e = absurd (none_some e)
    at_end (x ∷ before) t behind e = absurd (none_some e)

    at_first : (b : ℕ) (s : List ℕ) → StartsAgain (past_first b s) (lex (past_first b s))
        → StartsAgain (b ∷ s) (next_token (b ∷ s) ∷ lex (past_first b s))
    at_first b s h [] t behind e =
        let f : t.len ≡ (next_token (b ∷ s)).len = ap (λ (y : Token). y.len) (sym (first_same e)) in
        let g : 0 + t.len ≡ (next_token (b ∷ s)).len = omega (arith, f) in
        ap (λ (k : ℕ). lex (drop k (b ∷ s))) g ∙ rest_same e
    at_first b s h (x ∷ before) t behind e =
        let n = (next_token (b ∷ s)).len in
        let f : x.len ≡ n = ap (λ (y : Token). y.len) (sym (first_same e)) in
        let g : x.len + byte_count before + t.len ≡ n + (byte_count before + t.len) = omega (arith, f) in
        ap (λ (k : ℕ). lex (drop k (b ∷ s))) g ∙ ap lex (sym (drop-drop (byte_count before + t.len) n (b ∷ s))) ∙ h before t behind (rest_same e)

-- ---------------------------------------------------------------- after a semicolon

-- the call over the tokens is accepted too
accepted : (f : TextFile) → TextAccepted f → Accepted (of_tokens f)
accepted f h =
    let a = text_answered 1 f.setting f.bytes f.tokens f.buffers in
    sym (ap (λ (r : Result). r.answer.number) (a.all_else (λ (b : BeforeTheParse _). not_0 _ b h))) ∙ h

behind_front : (l : List Token) (t : Token) (m : List Token) → drop (suc (length l)) (l ++ (t ∷ m)) ≡ m
behind_front [] t m = refl
behind_front (x ∷ l) t m = behind_front l t m

-- the tokens after a semicolon are those of the bytes after it
tokens_after : (f : TextFile) → TextAccepted f → (s : Semicolon (tree_rows (result (of_tokens f))))
    → drop (suc (token_index s)) (tokens_of (numbers_of (lex f.bytes))) ≡ lex (drop (suc (start_byte s)) f.bytes)
tokens_after f h s =
    let T = tail (of_tokens f) (accepted f h) s in
    let ends : suc (start_byte s) ≡ byte_count T.head + T.semicolon.len = omega (arith, T.at_byte, T.one_byte_long) in
    ap (λ (k : ℕ). drop (suc k) (tokens_of (numbers_of (lex f.bytes)))) T.at_index
    ∙ ap (drop (suc (length T.head))) T.file
    ∙ behind_front T.head T.semicolon T.rest
    ∙ sym (starts_again f.bytes T.head T.semicolon T.rest (sym (read_back (lex f.bytes)) ∙ T.file))
    ∙ ap (λ (k : ℕ). lex (drop k f.bytes)) (sym ends)

pub texts_stay_local : TextsStayLocal
texts_stay_local f g same hf hg a b alike =
    stays_local (of_tokens f) (of_tokens g) same (accepted f hf) (accepted g hg) a b
    (record { same_tokens = tokens_after f hf a ∙ ap lex alike ∙ sym (tokens_after g hg b); same_bytes = alike })
