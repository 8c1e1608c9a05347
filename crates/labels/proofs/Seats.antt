-- Past trivia, a seat is where the machine's cursor is; so the contracts of token_rows, which speak of a machine, say
-- what a seat is.
use Rattle.std.proofs.Common.{ℕ, ◌+◌, ◌*◌, ◌/◌, ◌<◌, List, [], ◌∷◌, ◌≡◌, refl, ◌∙◌, ap, Bool, true, false, cond, length, get_or, drop}
use Rattle.basics.specs.Word.{low}
use Rattle.definitions.specs.Layout.{TOKEN_ROW, TOKEN_LENGTH}
use Rattle.definitions.specs.Token.{Token, tokens_of, trivia}
use Rattle.machine.specs.Machine.{Machine, Buffer, none_pending, with_cursor, skip, range_at}
use Rattle.machine.specs.Machine as M
use Rattle.token_rows.specs.declared.token.Seat.{Seat}
use Rattle.token_rows.proofs.Seen.{end_row}
use Rattle.labels.specs.Model.{next_seat, first_solid}

abbrev put_at : Seat → Machine → Machine
put_at p m = with_cursor p.at p.byte m

skip_solid : (ts : List Token) (p : Seat) (m : Machine) → skip ts (put_at p m) ≡ put_at (first_solid ts p) m
unfolding skip first_solid
skip_solid [] p m = refl
skip_solid (t ∷ ts) p m = by (trivia t) (skip_solid ts (next_seat t p) m)
  where
    by : (b : Bool) → skip ts (M.passed t (put_at p m)) ≡ put_at (first_solid ts (next_seat t p)) m
        → cond b (skip ts (M.passed t (put_at p m))) (put_at p m) ≡ put_at (cond b (first_solid ts (next_seat t p)) p) m
    by true e = e
    by false e = refl

abbrev no_numbers : Buffer
no_numbers = record { count = 0; numbers = [] }

-- any machine would do
abbrev resting : ℕ → Machine
resting byte =
    record {
      cursor = 0;
      byte = byte;
      mark = 0;
      mark_byte = 0;
      pending = none_pending;
      events = no_numbers;
      reports = no_numbers;
      pool = no_numbers;
      refusal = 0;
      place = 0;
    }

pub solid_seat : (ts : List Token) (p r : Seat) → ((m : Machine) → put_at r m ≡ skip ts (put_at p m)) → r ≡ first_solid ts p
solid_seat ts p r h =
    let e : put_at r (resting 0) ≡ put_at (first_solid ts p) (resting 0) = h (resting 0) ∙ skip_solid ts p (resting 0) in
    ap (λ (m : Machine). record { at = m.cursor; byte = m.byte }) e

pub end_byte : (tokens : List ℕ) (at byte e : ℕ) → at < length tokens / TOKEN_ROW
    → ((m : Machine) → m.byte ≡ byte → e ≡ (range_at (drop at (tokens_of tokens)) m).to)
    → e ≡ low (byte + get_or tokens (at * TOKEN_ROW + TOKEN_LENGTH) 0)
end_byte tokens at byte e h g = end_row tokens at byte e h g (resting byte) refl
