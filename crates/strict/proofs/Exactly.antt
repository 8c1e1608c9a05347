-- The statement of specs/Exactly.antt, for every accepted call.
use Prim.Native.Nat.{ℕ, ◌+◌, ◌-◌, ◌*◌, ◌≤◌, ◌<◌}
use native.Mathlib.Omega.{arith}
use mathlib.Core.Path.{◌≡◌, refl, ap, sym, ◌∙◌, subst}
use mathlib.Core.Bool.{false, false≢true}
use mathlib.Core.List.{List, [], ◌∷◌}
use lib.Dec.{lit<}
use lib.ListN.{length, take, drop, get_or}
use lib.Seq.{get_or-take, get_or-drop}
use Rattle.definitions.specs.Layout.{REPORT_ROW, REPORT_MARK}
use Rattle.definitions.specs.Errors as E
use Rattle.definitions.specs.Token.{Token, tokens_of, byte_count}
use Rattle.definitions.specs.Grammar.{Entry, root_kind}
use Rattle.definitions.specs.Place.{Tree, root}
use Rattle.definitions.specs.Report.{pool}
use Rattle.definitions.specs.Strict.{NameAt, judged, breaking}
use Rattle.definitions.specs.Call.{Buffers, Result, sheets, kept, run_entry, names_of, call}
use Rattle.laws.specs.TreeRows.{Rows, read}
use Rattle.laws.proofs.Between.{entry_reads}
use Rattle.laws.proofs.Names.{entry_names}
use Rattle.laws.proofs.Decode.{read_back, shown, shown_counts}
use Rattle.laws.proofs.Leaves.{Right, right_root}
use Rattle.laws.proofs.Lossless.{in_front}
use Rattle.laws.proofs.Input.{Checked, checked_input}
use Rattle.laws.proofs.Accepted.{Accepted, accepted_call, written_by}
use Rattle.strict.specs.Exactly.{Judged, Breaks, tree_of, report_row, mark, Reports, Exact, Exactly}
use Rattle.strict.proofs.ReportRows.{run_reports, run_rows, run_rows_length, name_rows, old_count, all_count}
use Rattle.strict.proofs.Settings.{strict_names, leaves_tree_alone}
use Rattle.strict.proofs.Rule.{says_false, rule_says}
use Rattle.strict.proofs.Listed.{At, at_less, at_index, all_at, rising_two}
use Rattle.strict.proofs.Judged.{Stands, directly, further, Found, In, found, Listed, judged_listed, rises}
use Rattle.strict.proofs.Breaking.{keeps, Broken, all_breaking, at_breaking, rising_breaking, row_at, row_behind}

-- rows that stand under no judging node
under_none : {r : Rows} {w a y : ℕ} → Stands false r w a y → Judged w a y r
under_none (directly e h) = absurd (false≢true e)
under_none (further h) = h

-- a row's fourth number is its mark
mark_in : (r : Result) (q at byte w : ℕ) → Reports r q at byte w → mark r q ≡ at
mark_in r q at byte w h =
    sym (get_or-drop (REPORT_ROW * q) r.buffers.reports REPORT_MARK 0)
    ∙ sym (get_or-take REPORT_ROW (drop (REPORT_ROW * q) r.buffers.reports) REPORT_MARK 0 (lit< tt))
    ∙ ap (λ (l : List ℕ). get_or l REPORT_MARK 0) h

module _ (s : ℕ) (strict : s ≡ 0 → ⊥) (e : Entry) (bytes : List ℕ) (ts : List Token) (b : Buffers) (full : byte_count ts ≡ length bytes) where
  abbrev t : Tree
  t = root (root_kind e) (run_entry e ts) ts

  abbrev r : Result
  r = kept (written_by s e bytes ts) b

  -- how many reports the run has
  abbrev c : ℕ
  c = length (run_reports e ts)

  -- the Names that break the rule
  abbrev names : List NameAt
  names = breaking bytes (judged false 0 0 t)

  names_are : names_of s e bytes ts ≡ names
  names_are = strict_names s bytes t strict

  tree_is : tree_of r ≡ shown t
  unfolding sheets
  tree_is = ap read (in_front e bytes ts b full) ∙ read_back (shown t) (shown_counts t)

  count_is : r.answer.report_count ≡ c + length names
  count_is = all_count s e bytes ts ∙ ap (λ (l : List NameAt). c + length l) names_are

  -- the row of the Name at an index
  row_is : {n : NameAt} {j : ℕ} → At n j names → report_row r (c + j) ≡ E.not_a_label ∷ n.start ∷ n.end ∷ n.first_token ∷ r.answer.expectation_count ∷ 0 ∷ E.no_hint ∷ 0 ∷ 0 ∷ []
  unfolding sheets
  row_is {n} {j} h =
      row_behind (run_rows e ts) (name_rows s e bytes ts) _ c j (run_rows_length e ts)
      ∙ row_at (length (pool (run_reports e ts))) _ (subst (At n j) (sym names_are) h)

  -- a Name of the list is one that breaks the rule, and its row is its report
  record Told (q : ℕ) (n : NameAt) : Type 0 where
    at : ℕ
    byte : ℕ
    width : ℕ
    breaks : Breaks bytes (tree_of r) at byte width
    reports : Reports r q at byte width
    first : n.first_token ≡ at

  told : {n : NameAt} {j : ℕ} → At n j names → Told (c + j) n
  told {n} {j} h =
      let w : Broken bytes (In false t 0 0) n = all_at (Broken bytes (In false t 0 0)) (all_breaking bytes (In false t 0 0) (judged false 0 0 t) (found false 0 0 t)) h in
      let f : Found (Stands false (shown t)) 0 0 n = w.0 in
      let x : n.first_token ≡ f.tokens = omega (arith, f.first_token) in
      let y : n.start ≡ f.bytes = omega (arith, f.start) in
      let z : n.end ≡ f.bytes + f.covers = omega (arith, f.end) in
      let v : n.end - n.start ≡ f.covers = omega arith in
      record {
        at = f.tokens;
        byte = f.bytes;
        width = f.covers;
        breaks =
            record {
              judged = subst (Judged f.covers f.tokens f.bytes) (sym tree_is) (under_none f.stands);
              breaks = (rule_says (take f.covers (drop f.bytes bytes))).no (rw (← v, ← y) w.1);
            };
        reports = row_is h ∙ cc;
        first = x;
      }

  -- the Name of a report row
  named : (q : ℕ) → c ≤ q → q < r.answer.report_count → (n : NameAt) × At n (q - c) names
  named q h g = at_index names (q - c) (omega (arith, count_is))

  told_at : (q : ℕ) → c ≤ q → (n : NameAt) → At n (q - c) names → Told q n
  told_at q h n g = let e : c + (q - c) ≡ q = omega arith in subst (λ (i : ℕ). Told i n) e (told g)

  each_report : (q : ℕ) → c ≤ q → q < r.answer.report_count → (at : ℕ) × (byte : ℕ) × (width : ℕ) × Breaks bytes (tree_of r) at byte width × Reports r q at byte width
  each_report q h g =
      let w : (n : NameAt) × At n (q - c) names = named q h g in
      let x : Told q w.0 = told_at q h w.0 w.1 in
      (x.at, x.byte, x.width, x.breaks, x.reports)

  -- the report of a Name of the list
  reported : (n : NameAt) (j : ℕ) → At n j names → (at byte width : ℕ) → n.first_token ≡ at → n.start ≡ byte → n.end ≡ byte + width
      → (q : ℕ) × (c ≤ q) × (q < r.answer.report_count) × Reports r q at byte width
  reported n j h at byte width x y z = (c + j, omega arith, omega (arith, count_is, at_less h), row_is h ∙ cc)

  each_name : (at byte width : ℕ) → Breaks bytes (tree_of r) at byte width → (q : ℕ) × (c ≤ q) × (q < r.answer.report_count) × Reports r q at byte width
  each_name at byte width h =
      let l : Listed (0 + at) (0 + byte) width (judged false 0 0 t) = judged_listed false 0 0 width at byte t (subst (Judged width at byte) tree_is h.judged) in
      let x : l.name.first_token ≡ at = omega (arith, l.first_token) in
      let y : l.name.start ≡ byte = omega (arith, l.start) in
      let z : l.name.end ≡ byte + width = omega (arith, l.end) in
      let v : l.name.end - l.name.start ≡ width = omega arith in
      let k : keeps bytes l.name ≡ false = rw (v, y) (says_false _ (rule_says (take width (drop byte bytes))) h.breaks) in
      let i : (i : ℕ) × At l.name i names = at_breaking bytes l.stands k in
      reported l.name i.0 i.1 at byte width x y z

  in_order : (p q : ℕ) → c ≤ p → p < q → q < r.answer.report_count → mark r p < mark r q
  in_order p q h g f =
      let m : (n : NameAt) × At n (p - c) names = named p h (omega arith) in
      let n : (n : NameAt) × At n (q - c) names = named q (omega arith) f in
      let x : Told p m.0 = told_at p h m.0 m.1 in
      let y : Told q n.0 = told_at q (omega arith) n.0 n.1 in
      let rise : m.0.first_token < n.0.first_token =
      rising_two m.0 n.0 0 _ names (p - c) (q - c) (rising_breaking bytes 0 _ (judged false 0 0 t) (rises false 0 0 t right)) m.1 n.1 (omega arith) in
      omega (arith, mark_in r p x.at x.byte x.width x.reports, mark_in r q y.at y.byte y.width y.reports, x.first, y.first, rise)
    where
      right : Right t
      right = right_root (root_kind e) (run_entry e ts) ts ((entry_reads e ts).reads ts refl) (entry_names e ts)

  pub exact : Exact bytes c r
  exact = record { each_report = each_report; each_name = each_name; in_order = in_order }

-- EXACTLY
pub exactly : Exactly
exactly n s bytes tokens b strict h =
    let a : Accepted n s bytes tokens b = accepted_call n s bytes tokens b h in
    let o : Accepted n 0 bytes tokens b = accepted_call n 0 bytes tokens b (leaves_tree_alone n s bytes tokens b h).number in
    let i : Checked bytes tokens = checked_input bytes tokens a.input in
    let c : (call n 0 bytes tokens b).answer.report_count ≡ length (run_reports o.entry (tokens_of tokens)) =
    ap (λ (r : Result). r.answer.report_count) o.returns ∙ old_count o.entry bytes (tokens_of tokens) in
    let e : o.entry ≡ a.entry = cc (o.asked_for, a.asked_for) in
    subst (Exact bytes (call n 0 bytes tokens b).answer.report_count) (sym a.returns)
    (subst (λ (c : ℕ). Exact bytes c (kept (written_by s a.entry bytes (tokens_of tokens)) b))
    (sym (c ∙ ap (λ (x : Entry). length (run_reports x (tokens_of tokens))) e))
    (exact s strict a.entry bytes (tokens_of tokens) b i.covered))
