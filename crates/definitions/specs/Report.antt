-- What a run pushes, in order: whether it fits the lent buffers, and the rows of its reports.
use Rattle.std.specs.Prelude.{ℕ, zero, suc, ◌+◌, ◌-◌, cond, List, [], ◌∷◌, ◌++◌, leb, length}
use Rattle.definitions.specs.Skeleton.{Label, no_label, label, Report, Skeleton, done, token, name, node, ignored, report, over}
use Rattle.definitions.specs.Refusal.{Refusal, too_deep, no_event_room, no_report_room}

-- an event, at a mark; a report (`emit_parse_error`: its event, then its row); a 65th open call, at a mark
pub data Push : Type 0 where
  event : ℕ → Push
  reported : Report → Push
  exceeded : ℕ → Push

unfoldable pub pushes : Skeleton → List Push
pushes done = []
pushes (token t m o) = event m ∷ pushes o
pushes (name ts m o) = event m ∷ pushes o
pushes (node k m m' a i o) = pushes a ++ (event m ∷ (pushes i ++ (event m' ∷ pushes o)))
pushes (ignored m m' a i o) = pushes a ++ (event m ∷ (pushes i ++ (event m' ∷ pushes o)))
pushes (report r o) = reported r ∷ pushes o
pushes (over m o) = exceeded m ∷ pushes o

-- ---------------------------------------------------------------- the first push that does not fit

-- how many more events, reports and expectations fit
pub record Room : Type 0 where
  pub events : ℕ
  pub reports : ℕ
  pub pool : ℕ

-- all fits, with that much room left; or the first refusal of 5 to 7, its mark counted from the end
pub data Fit : Type 0 where
  fits : Room → Fit
  stops : Refusal → Fit

unfoldable pub one_event : ℕ → ℕ → ℕ → ℕ → (Room → Fit) → Fit
one_event m zero r p k = stops (no_event_room m)
one_event m (suc e) r p k = k (record { events = e; reports = r; pool = p })

-- a report's row and its n expectations
unfoldable pub one_report : ℕ → ℕ → ℕ → ℕ → ℕ → (Room → Fit) → Fit
one_report m n e zero p k = stops (no_report_room m)
one_report m n e (suc r) p k =
    let more = k (record { events = e; reports = r; pool = p - n }) in
    cond (leb n p) more (stops (no_report_room m))

unfoldable pub scan : List Push → Room → Fit
unfolding one_event one_report
scan [] z = fits z
scan (event m ∷ l) z = one_event m z.events z.reports z.pool (scan l)
scan (reported r ∷ l) z =
    one_event r.mark z.events z.reports z.pool
    (λ y. one_report r.mark (length r.pool) y.events y.reports y.pool (scan l))
scan (exceeded m ∷ l) z = stops (too_deep m)

-- ---------------------------------------------------------------- report rows and pool

unfoldable pub reports : List Push → List Report
reports [] = []
reports (event m ∷ l) = reports l
reports (reported r ∷ l) = r ∷ reports l
reports (exceeded m ∷ l) = reports l

-- label start and label end in a file of b bytes; no label: 0, 0
abbrev pub label_numbers : ℕ → Label → List ℕ → List ℕ
label_numbers b no_label l = 0 ∷ 0 ∷ l
label_numbers b (label s) l = (b - s.from) ∷ (b - s.to) ∷ l

-- The rows of some reports in a file of n tokens and b bytes, `first` expectations having been written before them:
-- message, start, end, mark, first pool place, pool count, hint, label start, label end. Places are turned here into
-- numbers from the start of the file.
unfoldable pub report_numbers : ℕ → ℕ → ℕ → List Report → List ℕ
report_numbers n b first [] = []
report_numbers n b first (r ∷ l) =
    r.message ∷ (b - r.range.from) ∷ (b - r.range.to) ∷ (n - r.mark) ∷ first ∷ length r.pool ∷ r.hint
    ∷ label_numbers b r.labelled (report_numbers n b (first + length r.pool) l)

unfoldable pub pool : List Report → List ℕ
pool [] = []
pool (r ∷ l) = r.pool ++ pool l
