-- What becomes of the events of a run: the promise.
use Rattle.std.proofs.Common.{ℕ, ◌+◌, ◌-◌, ◌*◌, arith, ◌≡◌, refl, ap, sym, ◌∙◌, subst, Bool, true, false, cond, List, [], ◌++◌, append_assoc, append-nil, eqb, length, take, drop, length-take-le, take_at, Ok, length-append}
use Rattle.definitions.specs.Layout.{REPORT_ROW, OLD_SETTING}
use Rattle.definitions.specs.Token.{Token, tokens_of, drop_trivia, byte_count}
use Rattle.definitions.specs.Skeleton.{Skeleton}
use Rattle.definitions.specs.Place.{root}
use Rattle.definitions.specs.Grammar.{Entry, root_kind}
use Rattle.definitions.specs.Call.{run_entry}
use Rattle.definitions.specs.Refusal.{no_report_room, accepted, refused}
use Rattle.definitions.specs.RowCauses.{check_input}
use Rattle.definitions.specs.Strict.{NameAt, judged, breaking, reported_names, name_numbers, names_fit}
use Rattle.laws.proofs.Input.{Checked, checked_input}
use Rattle.laws.proofs.NamesFound.{Back, forwards, curly, under, found}
use Rattle.laws.proofs.NamesPlaced.{unnamed_input, root_found}
use Rattle.laws.proofs.ReportNumbers.{name_numbers_length}
use Rattle.sink.proofs.Runs.{entry_chained}
use Rattle.token_rows.specs.declared.token.Seat.{Seat}
use Rattle.labels.specs.declared.event.Event.{Event}
use Rattle.labels.specs.Model.{shown, seat, solid_after, Names, Out, out, judged_kind, node_on, nodes_on, strict_on, names_on}
use Rattle.labels.specs.Promise.{Leaves, Follow, Stop, Named, Promise}
use Rattle.labels.proofs.JudgedNodes.{entry_flat, entry_plain}
use Rattle.labels.proofs.Taken.{entry_taken}
use Rattle.labels.proofs.Standing.{Rep, held, File, Part, seated, beyond, solid_shorter, solid_there, emits}
use Rattle.labels.proofs.Alike.{Alike}
use Rattle.labels.proofs.Told.{told, told_run}
use Rattle.labels.proofs.Walks.{not_under, no_more, Node-judged, node_judged}
use Rattle.labels.proofs.Scans.{Stands, Reached, scan}
use Rattle.labels.proofs.Fitting as Fit
use Rattle.labels.proofs.Fitting.{Followed, Stopped, all_follow, first_stops}

module _ (e : Entry) (bytes tokens : List ℕ) (written first : ℕ) (reports : List ℕ) (ok : check_input bytes tokens ≡ accepted) where
  abbrev ts : List Token
  ts = tokens_of tokens

  abbrev o : Skeleton
  o = run_entry e ts

  abbrev k : ℕ
  k = root_kind e

  passed_input : Checked bytes tokens
  passed_input = checked_input bytes tokens ok

  -- the file
  abbrev F : File
  F =
      record {
        bytes = bytes;
        all = ts;
        few = omega (arith, passed_input.covered, passed_input.bytes_limit);
        many = omega (arith, passed_input.pairs, passed_input.numbers_limit);
        first = first;
      }

  whole : Part F ts
  whole = record { before = []; split = refl }

  abbrev start : Rep
  start = record { names = Ok written; reports = reports }

  -- the Names that are judged
  abbrev names : List Back
  names = found (under k (curly o ts)) o ts

  -- what the code comes to
  record Strictly : Type 0 where
    last : Rep
    alike : Alike (emits F names start) last
    runs : strict_on k bytes ts first (told o) (out (Ok written) reports) ≡ held last

  first_seat : seat 0 0 ≡ seated F ts
  first_seat =
      let a : length ts - length ts ≡ 0 = omega arith in
      let b : byte_count ts - byte_count ts ≡ 0 = omega arith in
      rw (a, b) refl

  at_start : Stands F 0 (seat 0 0) ts
  unfolding beyond
  at_start =
      record {
        from = ts;
        here = whole;
        at_is = first_seat;
        comes = refl;
        room = omega (arith, solid_shorter ts);
      }

  strictly : Strictly
  unfolding strict_on nodes_on
  strictly = go (judged_kind k) refl
    where
      place : Seat
      place = solid_after 0 ts (seat 0 0)

      there : place ≡ seated F (drop_trivia ts)
      there = unfold beyond in ap (solid_after 0 ts) first_seat ∙ solid_there F 0 ts whole

      by : (d : Bool) → judged_kind k ≡ d
          → strict_on k bytes ts first (told o) (out (Ok written) reports)
          ≡ cond d (node_on bytes ts first k (told o) place (held start)) (nodes_on bytes ts first (told o) 0 (seat 0 0) (held start))
      by d h = ap (λ (c : Bool). cond c (node_on bytes ts first k (told o) place (held start)) (nodes_on bytes ts first (told o) 0 (seat 0 0) (held start))) h

      go : (d : Bool) → judged_kind k ≡ d → Strictly
      go true h =
          let n : Node-judged F k o ts [] start = node_judged F k o ts [] start h whole (entry_chained e ts) (entry_plain e ts h) (entry_taken e ts) (no_more F) in
          record {
            last = n.last;
            alike = n.alike;
            runs =
                by true h
                ∙ ap (λ (y : Seat). node_on bytes ts first k (told o) y (held start)) there
                ∙ ap (λ (l : List Event). node_on bytes ts first k l (seated F (drop_trivia ts)) (held start)) (sym (append-nil (told o)))
                ∙ n.runs;
          }
      go false h =
          let q : Reached F o ts 0 (seat 0 0) start [] = scan F o ts 0 (seat 0 0) start [] (entry_chained e ts) (entry_flat e ts) (entry_taken e ts) whole at_start in
          record {
            last = q.last;
            alike = subst (λ (c : Bool). Alike (emits F (found c o ts) start) q.last) (sym (not_under k (curly o ts) h)) q.alike;
            runs = by false h ∙ ap (λ (l : List Event). nodes_on bytes ts first l 0 (seat 0 0) (held start)) (sym (append-nil (told o))) ∙ q.runs;
          }

  -- ---------------------------------------------------------------- what it reports

  abbrev l : List NameAt
  l = breaking bytes (forwards (length ts) (byte_count ts) names)

  strict_names : (setting : ℕ) → eqb setting OLD_SETTING ≡ false → reported_names setting bytes (root k o ts) ≡ l
  unfolding reported_names
  strict_names setting h =
      ap (λ (b : Bool). cond b [] (breaking bytes (judged false 0 0 (root k o ts)))) h ∙ ap (breaking bytes) (root_found k o ts (unnamed_input ts passed_input.good))

  strict_named : Named l first written reports strictly.last.names strictly.last.reports
  strict_named = record { fits = all_fit; lacks = one_lacks }
    where
      q : Rep
      q = strictly.last

      same : Alike (emits F names start) q
      same = strictly.alike

      all_fit : (room : ℕ) → Leaves written room reports → names_fit room l ≡ accepted → Follow l first written reports q.names q.reports
      all_fit room h f =
          let a : Followed F passed_input.covered written reports l (emits F names start) = all_follow F passed_input.covered names room written reports h f in
          let n : ℕ = written + length l * REPORT_ROW in
          let t : length (take written reports) ≡ written = length-take-le written reports (omega (arith, h.enough)) in
          let m : length (take written reports ++ name_numbers first l) ≡ n =
          length-append (take written reports) (name_numbers first l) ∙ (let z : length (name_numbers first l) ≡ REPORT_ROW * length l = name_numbers_length first l in omega arith) in
          record {
            count = sym same.names ∙ a.names;
            rows =
                sym (rw a.names at same.rows)
                ∙ ap (take n) (a.reports ∙ sym (append_assoc (take written reports) (name_numbers first l) (drop n reports)))
                ∙ take_at (take written reports ++ name_numbers first l) (drop n reports) n m;
          }

      one_lacks : (room mark : ℕ) → Leaves written room reports → names_fit room l ≡ refused (no_report_room mark) → Stop mark q.names
      one_lacks room mark h f =
          let a : Stopped F passed_input.covered mark (emits F names start) = first_stops F passed_input.covered names room written reports mark h f in
          record { written = a.written; refused_at = sym same.names ∙ a.names }

  -- the old setting does nothing
  old_named : (setting : ℕ) → eqb setting OLD_SETTING ≡ true → Named (reported_names setting bytes (root k o ts)) first written reports (Ok written) reports
  unfolding reported_names names_fit name_numbers
  old_named setting h =
      let z : written + 0 * REPORT_ROW ≡ written = omega arith in
      rw h
      (record {
        fits =
            λ room l f.
            record {
              count = ap (λ (j : ℕ). Ok j) (sym z);
              rows = ap (λ (j : ℕ). take j reports) z ∙ sym (append-nil (take written reports));
            };
        lacks = λ room m l f. absurd (Fit.refused_not (no_report_room m) (sym f));
      })

-- THE NAMES' REPORTS
kept_promise : (setting k : ℕ) (bytes tokens : List ℕ) (written first : ℕ) (events reports : List ℕ) (s : Names) (reports' : List ℕ)
    → out s reports' ≡ names_on setting k bytes (tokens_of tokens) written first events reports
    → Promise setting k bytes tokens written first events reports s reports'
unfolding names_on
kept_promise setting k bytes tokens written first events reports s reports' h e root_is ok run = go (eqb setting OLD_SETTING) refl
  where
    ts : List Token
    ts = tokens_of tokens

    o : Skeleton
    o = run_entry e ts

    names_in : Out → Names
    names_in (out s reports) = s

    reports_in : Out → List ℕ
    reports_in (out s reports) = reports

    are : List NameAt
    are = reported_names setting bytes (root k o ts)

    from : (x : Out) → out s reports' ≡ x → Named are first written reports (names_in x) (reports_in x) → Named are first written reports s reports'
    from x g d =
        subst (λ (y : List ℕ). Named are first written reports s y) (sym (ap reports_in g))
        (subst (λ (y : Names). Named are first written reports y (reports_in x)) (sym (ap names_in g)) d)

    by : (b : Bool) → eqb setting OLD_SETTING ≡ b
        → out s reports' ≡ cond b (out (Ok written) reports) (strict_on k bytes ts first (shown events) (out (Ok written) reports))
    by b g = h ∙ ap (λ (c : Bool). cond c (out (Ok written) reports) (strict_on k bytes ts first (shown events) (out (Ok written) reports))) g

    told_are : shown events ≡ told o
    told_are = ap shown run ∙ told_run o

    go : (b : Bool) → eqb setting OLD_SETTING ≡ b → Named are first written reports s reports'
    go true g =
        from (out (Ok written) reports) (by true g)
        (subst (λ (j : ℕ). Named (reported_names setting bytes (root j o ts)) first written reports (Ok written) reports) (sym root_is) (old_named e bytes tokens written first reports ok setting g))
    go false g =
        let n : Strictly e bytes tokens written first reports ok = strictly e bytes tokens written first reports ok in
        from (held n.last)
        (by false g
        ∙ ap (λ (x : List Event). strict_on k bytes ts first x (out (Ok written) reports)) told_are
        ∙ ap (λ (j : ℕ). strict_on j bytes ts first (told o) (out (Ok written) reports)) root_is
        ∙ n.runs)
        (subst (λ (j : ℕ). Named (reported_names setting bytes (root j o ts)) first written reports n.last.names n.last.reports) (sym root_is)
        (subst (λ (x : List NameAt). Named x first written reports n.last.names n.last.reports) (sym (strict_names e bytes tokens written first reports ok setting g))
        (strict_named e bytes tokens written first reports ok)))

-- the same, beside what is known of any buffers
pub with_promise : (setting k : ℕ) (bytes tokens : List ℕ) (written first : ℕ) (events reports : List ℕ) (s : Names) (reports' : List ℕ)
    → out s reports' ≡ names_on setting k bytes (tokens_of tokens) written first events reports
    → (out s reports' ≡ names_on setting k bytes (tokens_of tokens) written first events reports)
    × Promise setting k bytes tokens written first events reports s reports'
with_promise setting k bytes tokens written first events reports s reports' h =
    (h, kept_promise setting k bytes tokens written first events reports s reports' h)
