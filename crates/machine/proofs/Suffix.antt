-- A suffix of the tokens, those from a place on to the end of the file: how many, how many bytes, and where they start.
use Prim.Native.Nat.{ℕ, ◌+◌, ◌-◌, ◌≤◌}
use native.Mathlib.Omega.{arith}
use mathlib.Core.Path.{◌≡◌, refl, sym, ap, ◌∙◌, subst}
use mathlib.Core.List.{List, [], ◌∷◌, ◌++◌, append_assoc}
use lib.ListN.{length, drop, length-append}
use lib.Seq.{drop-append_seam}
use Rattle.definitions.specs.Token.{Token, trivia, drop_trivia, byte_count}
use Rattle.basics.proofs.Tests.{cond-all}
use Rattle.laws.proofs.Skeleton.{bytes_append}
use Rattle.machine.specs.Outcome.{NoEmptyToken}

pub record Suffix (ts l : List Token) : Type 0 where
  pub front : List Token
  pub joins : front ++ l ≡ ts

pub suffix_whole : (ts : List Token) → Suffix ts ts
suffix_whole ts = record { front = []; joins = refl }

pub suffix_tail : (ts l : List Token) (t : Token) → Suffix ts (t ∷ l) → Suffix ts l
suffix_tail ts l t p = record { front = p.front ++ (t ∷ []); joins = append_assoc p.front (t ∷ []) l ∙ p.joins }

pub suffix_length : (ts l : List Token) → Suffix ts l → length l ≤ length ts
suffix_length ts l p = let e : length p.front + length l ≡ length ts = sym (length-append p.front l) ∙ ap length p.joins in omega arith

pub suffix_bytes : (ts l : List Token) → Suffix ts l → byte_count l ≤ byte_count ts
suffix_bytes ts l p = let e : byte_count p.front + byte_count l ≡ byte_count ts = sym (bytes_append p.front l) ∙ ap byte_count p.joins in omega arith

-- dropped up to there
pub suffix_drop : (ts l : List Token) → Suffix ts l → drop (length ts - length l) ts ≡ l
suffix_drop ts l p =
    let e : length p.front + length l ≡ length ts = sym (length-append p.front l) ∙ ap length p.joins in
    let n : length ts - length l ≡ length p.front = omega arith in
    ap (λ (k : ℕ). drop k ts) n ∙ ap (λ (u : List Token). drop (length p.front) u) (sym p.joins) ∙ drop-append_seam p.front l

filled_after : (f l : List Token) → NoEmptyToken (f ++ l) → NoEmptyToken l
filled_after [] l h = h
filled_after (t ∷ f) l h = filled_after f l h.1

pub suffix_filled : (ts l : List Token) → Suffix ts l → NoEmptyToken ts → NoEmptyToken l
suffix_filled ts l p h = filled_after p.front l (subst NoEmptyToken (sym p.joins) h)

-- past trivia
pub suffix_trivia : (ts l : List Token) → Suffix ts l → Suffix ts (drop_trivia l)
unfolding drop_trivia
suffix_trivia ts [] p = p
suffix_trivia ts (t ∷ l) p = cond-all (Suffix ts) (trivia t) {x = drop_trivia l} {y = t ∷ l} (suffix_trivia ts l (suffix_tail ts l t p)) p

pub bytes_trivia : (l : List Token) → byte_count (drop_trivia l) ≤ byte_count l
unfolding drop_trivia byte_count
bytes_trivia [] = omega arith
bytes_trivia (t ∷ l) = cond-all (λ (u : List Token). byte_count u ≤ t.len + byte_count l) (trivia t) {x = drop_trivia l} {y = t ∷ l} (omega (arith, bytes_trivia l)) (omega arith)

pub bytes_first : (t : Token) (l : List Token) → byte_count (t ∷ l) ≡ t.len + byte_count l
unfolding byte_count
bytes_first t l = refl
