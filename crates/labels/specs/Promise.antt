-- What is promised of the events of a run: the reports of the Names that the setting reports of the definitions' tree
-- follow those written, or refusal 7 with the mark of the first that does not fit.
use Rattle.std.specs.Prelude.{ℕ, suc, ◌+◌, ◌*◌, ◌≤◌, ◌<◌, ◌≡◌, false, Ok, Err, List, ◌++◌, length, take}
use Rattle.definitions.specs.Layout.{REPORT_ROW}
use Rattle.definitions.specs.Token.{tokens_of}
use Rattle.definitions.specs.Place.{root}
use Rattle.definitions.specs.Refusal.{no_report_room, accepted, refused}
use Rattle.definitions.specs.RowCauses.{check_input}
use Rattle.definitions.specs.Strict.{NameAt, reported_names, name_numbers, names_fit}
use Rattle.definitions.specs.Grammar.{Entry, root_kind}
use Rattle.definitions.specs.Call.{run_entry}
use Rattle.machine.specs.Encode.{encode}
use Rattle.labels.specs.Model.{Names, no_room}

-- so many rows fit after the numbers written, and no more
pub record Leaves (written room : ℕ) (reports : List ℕ) : Type 0 where
  pub enough : written + room * REPORT_ROW ≤ length reports
  pub no_more : length reports < written + suc room * REPORT_ROW

-- all fit: the rows of the Names l follow the numbers written
pub record Follow (l : List NameAt) (first written : ℕ) (reports : List ℕ) (s : Names) (reports' : List ℕ) : Type 0 where
  pub count : s ≡ Ok (written + length l * REPORT_ROW)
  pub rows : take (written + length l * REPORT_ROW) reports' ≡ take written reports ++ name_numbers first l

-- one does not fit; written: how many numbers are written before it
pub record Stop (mark : ℕ) (s : Names) : Type 0 where
  pub written : ℕ
  pub refused_at : s ≡ Err (no_room written mark)

pub record Named (l : List NameAt) (first written : ℕ) (reports : List ℕ) (s : Names) (reports' : List ℕ) : Type 0 where
  pub fits : (room : ℕ) → Leaves written room reports → names_fit room l ≡ accepted → Follow l first written reports s reports'
  pub lacks : (room mark : ℕ) → Leaves written room reports → names_fit room l ≡ refused (no_report_room mark) → Stop mark s

-- for every run over an input that passed its checks; k: the root's kind
abbrev pub Promise : ℕ → ℕ → List ℕ → List ℕ → ℕ → ℕ → List ℕ → List ℕ → Names → List ℕ → Type 0
Promise setting k bytes tokens written first events reports s reports' =
    (e : Entry) → k ≡ root_kind e → check_input bytes tokens ≡ accepted → events ≡ encode false (run_entry e (tokens_of tokens))
    → Named (reported_names setting bytes (root k (run_entry e (tokens_of tokens)) (tokens_of tokens))) first written reports s reports'
