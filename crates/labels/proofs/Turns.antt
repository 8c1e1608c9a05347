-- The turns of the loops over raw tokens.
use Rattle.std.proofs.Common.{◌≡◌, ℕ, zero, suc, ◌+◌, ◌-◌, ◌*◌, ◌/◌, ◌≤◌, ◌<◌, List, [], Bool, true, false, cond, length, get_or, drop, refl, arith}
use Rattle.basics.specs.Word.{low}
use Rattle.basics.proofs.TokenRows.{tokens_cons, tokens_end}
use Rattle.definitions.specs.Layout.{TOKEN_ROW, TOKEN_LENGTH}
use Rattle.definitions.specs.Token.{tokens_of, trivia, is_trivia}
use Rattle.token_rows.specs.declared.token.Seat.{Seat}
use Rattle.labels.specs.Model.{seat, passed, past_solid}

-- ---------------------------------------------------------------- past so many

-- e: where the token ends
pub passed_again : (tokens : List ℕ) (n m : ℕ) (p : Seat) (e : ℕ) → n ≡ suc m → p.at < length tokens / TOKEN_ROW
    → e ≡ low (p.byte + get_or tokens (p.at * TOKEN_ROW + TOKEN_LENGTH) 0)
    → passed n (drop p.at (tokens_of tokens)) p ≡ passed m (drop (p.at + 1) (tokens_of tokens)) (seat (p.at + 1) e)
unfolding passed
passed_again tokens n m p e l h q = rw (l, tokens_cons tokens p.at h, q)

passed_none : (n : ℕ) (p : Seat) → passed n [] p ≡ p
unfolding passed
passed_none zero p = refl
passed_none (suc n) p = refl

pub passed_past : (tokens : List ℕ) (n : ℕ) (p : Seat) → length tokens / TOKEN_ROW ≤ p.at → passed n (drop p.at (tokens_of tokens)) p ≡ p
passed_past tokens n p h = rw (tokens_end tokens p.at h) (passed_none n p)

-- ---------------------------------------------------------------- past so many that are not trivia

-- e: where the token ends. m: how many are left then.
pub solid_again : (tokens : List ℕ) (n m : ℕ) (p : Seat) (e : ℕ) → 0 < n → p.at < length tokens / TOKEN_ROW
    → e ≡ low (p.byte + get_or tokens (p.at * TOKEN_ROW + TOKEN_LENGTH) 0)
    → m ≡ cond (is_trivia (get_or tokens (p.at * TOKEN_ROW) 0)) n (n - 1)
    → past_solid n (drop p.at (tokens_of tokens)) p ≡ past_solid m (drop (p.at + 1) (tokens_of tokens)) (seat (p.at + 1) e)
unfolding past_solid trivia
solid_again tokens zero m p e some h q l = absurd (omega arith)
solid_again tokens (suc n) m p e some h q l =
    let less : suc n - 1 ≡ n = omega arith in
    rw (tokens_cons tokens p.at h, q, l, less) (by (is_trivia (get_or tokens (p.at * TOKEN_ROW) 0)))
  where
    to : ℕ → Seat
    to k = past_solid k (drop (p.at + 1) (tokens_of tokens)) (seat (p.at + 1) (low (p.byte + get_or tokens (p.at * TOKEN_ROW + TOKEN_LENGTH) 0)))

    by : (b : Bool) → cond b (to (suc n)) (to n) ≡ to (cond b (suc n) n)
    by true = refl
    by false = refl

solid_none : (n : ℕ) (p : Seat) → past_solid n [] p ≡ p
unfolding past_solid
solid_none zero p = refl
solid_none (suc n) p = refl

pub solid_past : (tokens : List ℕ) (n : ℕ) (p : Seat) → length tokens / TOKEN_ROW ≤ p.at → past_solid n (drop p.at (tokens_of tokens)) p ≡ p
solid_past tokens n p h = rw (tokens_end tokens p.at h) (solid_none n p)
