-- What a report comes to on the literal machine, in plain variables: its range, its row and its pool.
use Rattle.std.proofs.Common.{ℕ, ◌+◌, ◌-◌, ◌/◌, ◌<◌, ◌≤◌, ◌≡◌, refl, sym, ◌∙◌, ap, List, [], ◌∷◌, length, drop}
use Rattle.std.specs.Prelude.{Bool, true, false, cond, ◌&&◌, eqb}
use Rattle.std.proofs.lemmas.List.Edits.{sets}
use denote.Enum.Bare.{sameb}
use Rattle.definitions.specs.Errors.{msg_expected}
use Rattle.definitions.specs.Layout.{TOKEN_ROW, REPORT_ROW, ERROR, NO_REPORT_ROOM}
use Rattle.definitions.specs.Token.{Token, tokens_of}
use Rattle.definitions.specs.Skeleton.{Span}
use Rattle.definitions.specs.Run.{only_separators, pool_of}
use Rattle.basics.specs.Word.{low}
use Rattle.basics.proofs.Tests.{and_both}
use Rattle.basics.proofs.TokenRows.{token_at, tokens_cons, tokens_end}
use Rattle.machine.specs.Machine.{Pending, Machine, with_reports, range_at, error_range, report_row, pool_count, how_many, write_report, fits}
use Rattle.machine.specs.Machine as M
use Rattle.layout.specs.Rows.{put_row}
use Rattle.layout.specs.Numbers.{message_number}
use Rattle.layout.specs.declared.message.Message.{Message}
use Rattle.layout.specs.declared.message.Message.TheVariants as MessageV
use Rattle.layout.specs.contracts.message.Message.{the_type}

-- the message of the expectations, by its number
is_expected : (m : Message) → sameb the_type m MessageV.Expected ≡ eqb (message_number m) msg_expected
is_expected MessageV.Expected = refl
is_expected MessageV.UnmatchedRcurly = refl
is_expected MessageV.UnmatchedSemicolon = refl
is_expected MessageV.UnmatchedEndif = refl
is_expected MessageV.StrayContinuation = refl
is_expected MessageV.AtSignInLabel = refl
is_expected MessageV.UnclosedNode = refl
is_expected MessageV.NotALabel = refl

pub pool_is : (m : Message) (ks : List ℕ) → pool_of (message_number m) ks ≡ cond (sameb the_type m MessageV.Expected) ks []
unfolding pool_of
pool_is m ks = ap (λ (b : Bool). cond b ks []) (sym (is_expected m))

pub count_is : (m : Message) (x : Pending) → pool_count (message_number m) x ≡ cond (sameb the_type m MessageV.Expected) (how_many x) 0
unfolding pool_count
count_is m x = ap (λ (b : Bool). cond b (how_many x) 0) (sym (is_expected m))

-- ---------------------------------------------------------------- the range

pub range_lone : (tokens : List ℕ) (m : Machine) → m.cursor < length tokens / TOKEN_ROW → only_separators m.pending.codes ≡ true
    → record { from = m.mark_byte; to = low (m.mark_byte + 1) } ≡ error_range (drop m.cursor (tokens_of tokens)) m
unfolding error_range
range_lone tokens m h e =
    let r = range_at (token_at tokens m.cursor ∷ drop (m.cursor + 1) (tokens_of tokens)) m in
    sym (ap (λ (b : Bool). cond b (record { from = m.mark_byte; to = low (m.mark_byte + 1) }) r) e) ∙ sym (ap (λ (l : List Token). error_range l m) (tokens_cons tokens m.cursor h))

pub range_token : (tokens : List ℕ) (m : Machine) → m.cursor < length tokens / TOKEN_ROW → only_separators m.pending.codes ≡ false
    → range_at (drop m.cursor (tokens_of tokens)) m ≡ error_range (drop m.cursor (tokens_of tokens)) m
unfolding error_range
range_token tokens m h e =
    let d = tokens_cons tokens m.cursor h in
    let r = range_at (token_at tokens m.cursor ∷ drop (m.cursor + 1) (tokens_of tokens)) m in
    ap (λ (l : List Token). range_at l m) d
    ∙ sym (ap (λ (b : Bool). cond b (record { from = m.mark_byte; to = low (m.mark_byte + 1) }) r) e) ∙ sym (ap (λ (l : List Token). error_range l m) d)

pub range_end : (tokens : List ℕ) (m : Machine) → length tokens / TOKEN_ROW ≤ m.cursor → record { from = m.byte - 1; to = m.byte } ≡ error_range (drop m.cursor (tokens_of tokens)) m
unfolding error_range
range_end tokens m h = sym (ap (λ (l : List Token). error_range l m) (tokens_end tokens m.cursor h))

-- ---------------------------------------------------------------- the row and its codes

-- what `write_report` does where nothing was refused and both fit. rows, pool: the numbers after it; ks: the codes
abbrev reported : List ℕ → List ℕ → Machine → List ℕ → Machine
reported rows pool m ks = with_reports (record { count = m.reports.count + REPORT_ROW; numbers = rows }) (record { count = m.pool.count + length ks; numbers = pool }) m

module _ (message hint : ℕ) (range lab : Span) (m : Machine) where
  abbrev row : List ℕ
  row = report_row message hint range lab m.mark m.pool.count (pool_count message m.pending)

  abbrev written : Bool → Bool → List ℕ → Machine
  written a b ks = cond a (cond b (reported (sets m.reports.numbers m.reports.count row) (sets m.pool.numbers m.pool.count ks) m ks) (M.refuse NO_REPORT_ROOM m)) m

  abbrev room : List ℕ → Bool
  room ks = fits (length m.reports.numbers) m.reports.count REPORT_ROW && fits (length m.pool.numbers) m.pool.count (length ks)

  by : (ks : List ℕ) (a b : Bool) → ks ≡ pool_of message m.pending.codes → eqb m.refusal 0 ≡ a → room ks ≡ b → written a b ks ≡ write_report message hint range lab m
  unfolding write_report
  by ks a b k e f =
      ap (λ (x : Bool). written x b ks) (sym e) ∙ ap (λ (x : Bool). written (eqb m.refusal 0) x ks) (sym f)
      ∙ ap (λ (l : List ℕ). written (eqb m.refusal 0) (room l) l) k

  pub report_off : eqb m.refusal 0 ≡ false → m ≡ write_report message hint range lab m
  report_off e = by (pool_of message m.pending.codes) false _ refl e refl

  pub report_fits : (ks l rows pool : List ℕ) → ks ≡ pool_of message m.pending.codes → eqb m.refusal 0 ≡ true → fits (length m.reports.numbers) m.reports.count REPORT_ROW ≡ true
      → fits (length m.pool.numbers) m.pool.count (length ks) ≡ true → l ≡ row → rows ≡ put_row REPORT_ROW m.reports.count l m.reports.numbers → pool ≡ sets m.pool.numbers m.pool.count ks
      → reported rows pool m ks ≡ write_report message hint range lab m
  unfolding put_row
  report_fits ks l rows pool k e f g r s t =
      ap (λ (x : List ℕ). reported x pool m ks)
      (s ∙ ap (λ (b : Bool). cond b (sets m.reports.numbers m.reports.count l) m.reports.numbers) f ∙ ap (sets m.reports.numbers m.reports.count) r)
      ∙ ap (λ (x : List ℕ). reported (sets m.reports.numbers m.reports.count row) x m ks) t
      ∙ by ks true true k e (and_both f g)

  pub report_full : (ks : List ℕ) (x : Machine) → ks ≡ pool_of message m.pending.codes → eqb m.refusal 0 ≡ true → room ks ≡ false → x ≡ M.refuse NO_REPORT_ROOM m → x ≡ write_report message hint range lab m
  report_full ks x k e f g = g ∙ by ks true false k e f

-- the event, and then the row
pub emit_is : (ts : List Token) (message hint : ℕ) (range lab : Span) (m p q r : Machine) → p ≡ M.peek ts m → range ≡ error_range (drop p.cursor ts) p → q ≡ M.push ERROR 0 p
    → r ≡ write_report message hint range lab q → r ≡ M.emit ts message hint lab m
unfolding M.emit
emit_is ts message hint range lab m p q r e f g h =
    h ∙ ap (λ (x : Machine). write_report message hint range lab x) g ∙ ap (λ (x : Span). write_report message hint x lab (M.push ERROR 0 p)) f
    ∙ ap (λ (x : Machine). write_report message hint (error_range (drop x.cursor ts) x) lab (M.push ERROR 0 x)) e
