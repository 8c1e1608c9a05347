-- A call over a text, with one scan in the place of the search for the longest match, which is quicker to compute
-- (tests/compare-definitions). It is `text_call`: `by_scan`.
use Prim.Native.Nat.{ℕ, zero, suc, pred}
use mathlib.Core.Path.{◌≡◌, refl, sym, ap, ◌∙◌}
use mathlib.Core.List.{List, [], ◌∷◌}
use lib.ListN.{length}
use Rattle.definitions.specs.Token.{Token}
use Rattle.definitions.specs.Rules.{rules}
use Rattle.definitions.specs.Lex.{Match, no_match, made_of, lex_after, lex}
use Rattle.definitions.specs.Call.{Buffers, Asked, for, unknown, entry_of}
use Rattle.definitions.specs.Text.{TextResult, unknown_entry, unchanged, text_number, text_place, numbers_of, check_text, checked_text, asked_text, text_call}
use Rattle.lexing.specs.Scan.{scan}
use Rattle.lexing.proofs.Scan.{scans}

-- as `lex_after`
unfoldable pub scan_after : ℕ → List ℕ → List Token
unfolding scan made_of
scan_after k [] = []
scan_after zero (b ∷ s) =
    let t = made_of (scan rules 0 no_match (b ∷ s)) (b ∷ s) in
    t ∷ scan_after (pred t.len) s
scan_after (suc k) (b ∷ s) = scan_after k s

same : (k : ℕ) (s : List ℕ) → lex_after k s ≡ scan_after k s
unfolding lex_after scan_after
same k [] = refl
same zero (b ∷ s) =
    ap (λ (t : Token). t ∷ lex_after (pred t.len) s) (ap (λ (m : Match). made_of m (b ∷ s)) (sym (scans (b ∷ s))))
    ∙ ap (λ (ts : List Token). u ∷ ts) (same (pred u.len) s)
  where
    u : Token
    u = made_of (scan rules 0 no_match (b ∷ s)) (b ∷ s)
same (suc k) (b ∷ s) = same k s

-- as `asked_text` and `text_call`, of given tokens
unfoldable pub asked_of : Asked → List Token → ℕ → ℕ → List ℕ → List ℕ → Buffers → TextResult
unfolding text_number text_place numbers_of check_text checked_text
asked_of unknown ts n setting bytes tokens b = unchanged unknown_entry tokens b
asked_of (for e) ts n setting bytes tokens b =
    checked_text (check_text bytes ts (length tokens)) n setting bytes (numbers_of ts) tokens b

unfoldable pub call_of : List Token → ℕ → ℕ → List ℕ → List ℕ → Buffers → TextResult
unfolding asked_of entry_of
call_of ts n setting bytes tokens b = asked_of (entry_of n) ts n setting bytes tokens b

pub by_scan : (n setting : ℕ) (bytes tokens : List ℕ) (b : Buffers)
    → text_call n setting bytes tokens b ≡ call_of (scan_after 0 bytes) n setting bytes tokens b
unfolding text_call call_of
by_scan n setting bytes tokens b =
    go (entry_of n) ∙ ap (λ (ts : List Token). call_of ts n setting bytes tokens b) (same 0 bytes)
  where
    go : (a : Asked) → asked_text a n setting bytes tokens b ≡ asked_of a (lex bytes) n setting bytes tokens b
    go unknown = refl
    go (for e) = refl
