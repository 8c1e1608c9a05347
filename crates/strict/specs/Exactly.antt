-- EXACTLY THE NAMES THAT BREAK THE RULE. Document 02, 1/14: the strict setting "adds message 8 for each Name directly
-- under a DtLabel, or directly under an unbraced DtPhandle, that breaks the rule. These reports .. follow all others,
-- in leaf order, with hint 0 and no label. Each covers the name, and its mark is the index of the name's first token."
-- For every accepted call in the strict setting, of the numbers that it leaves in the buffers: the Names are those that
-- a reader of the tree rows finds. It excludes a parser that misses such a Name, reports one twice, reports another, or
-- reports them in another order or at another place.
use Rattle.std.specs.Prelude.{ℕ, ◌+◌, ◌*◌, ◌≤◌, ◌<◌, ◌≡◌, List, [], ◌∷◌, ◌⊎◌, take, drop, get_or}
use Rattle.definitions.specs.Layout.{TREE_ROW, REPORT_ROW, REPORT_MARK}
use Rattle.definitions.specs.TokenKind as K
use Rattle.definitions.specs.NodeKind as N
use Rattle.definitions.specs.Call.{Buffers, Result, call}
use Rattle.laws.specs.TreeRows.{Rows, end, leaf, node, read}

-- ---------------------------------------------------------------- the rule

-- an ASCII letter or an underscore
pub data Letter (b : ℕ) : Type 0 where
  lower : 97 ≤ b → b ≤ 122 → Letter b
  upper : 65 ≤ b → b ≤ 90 → Letter b
  underscore : b ≡ 95 → Letter b

pub record Digit (b : ℕ) : Type 0 where
  pub least : 48 ≤ b
  pub most : b ≤ 57

-- letters, digits and underscores
unfoldable pub InLabel : List ℕ → Type 0
InLabel [] = Unit {0}
InLabel (b ∷ bytes) = (Letter b ⊎ Digit b) × InLabel bytes

unfoldable pub LeadingDigit : List ℕ → Type 0
LeadingDigit [] = ⊥
LeadingDigit (b ∷ bytes) = Digit b

-- and no leading digit
pub record KeepsRule (bytes : List ℕ) : Type 0 where
  pub holds : InLabel bytes
  pub leads : LeadingDigit bytes → ⊥

-- ---------------------------------------------------------------- the Names that are judged

-- how many raw tokens the leaves of rows stand for
unfoldable pub raw_tokens : Rows → ℕ
raw_tokens end = 0
raw_tokens (leaf k w n f) = n + raw_tokens f
raw_tokens (node k w n c f) = raw_tokens c + raw_tokens f

-- no LCurly stands among these rows, those under a node not looked at
unfoldable pub Unbraced : Rows → Type 0
Unbraced end = Unit {0}
Unbraced (leaf k w n f) = (k ≡ K.LCurly → ⊥) × Unbraced f
Unbraced (node k w n c f) = Unbraced f

-- a Name leaf of that width among these rows, those under a node not looked at, with so many raw tokens and bytes
-- before it
pub data NameAmong (width : ℕ) : ℕ → ℕ → Rows → Type 0 where
  here : {n : ℕ} {f : Rows} → NameAmong width 0 0 (leaf K.Name width n f)
  past_leaf : {at byte k w n : ℕ} {f : Rows} → NameAmong width at byte f → NameAmong width (n + at) (w + byte) (leaf k w n f)
  past_node : {at byte k w n : ℕ} {c f : Rows} → NameAmong width at byte f
      → NameAmong width (raw_tokens c + at) (w + byte) (node k w n c f)

-- one anywhere in these rows whose parent is a DtLabel or an unbraced DtPhandle
pub data Judged (width : ℕ) : ℕ → ℕ → Rows → Type 0 where
  in_label : {at byte w n : ℕ} {c f : Rows} → NameAmong width at byte c → Judged width at byte (node N.DtLabel w n c f)
  in_phandle : {at byte w n : ℕ} {c f : Rows} → NameAmong width at byte c → Unbraced c
      → Judged width at byte (node N.DtPhandle w n c f)
  deeper : {at byte k w n : ℕ} {c f : Rows} → Judged width at byte c → Judged width at byte (node k w n c f)
  past_leaf : {at byte k w n : ℕ} {f : Rows} → Judged width at byte f → Judged width (n + at) (w + byte) (leaf k w n f)
  past_node : {at byte k w n : ℕ} {c f : Rows} → Judged width at byte f → Judged width (raw_tokens c + at) (w + byte) (node k w n c f)

-- ---------------------------------------------------------------- the claim

-- a judged Name of these rows that breaks the rule in an input of these bytes
pub record Breaks (bytes : List ℕ) (tree : Rows) (at byte width : ℕ) : Type 0 where
  pub judged : Judged width at byte tree
  pub breaks : KeepsRule (take width (drop byte bytes)) → ⊥

-- the rows of a result's tree, as a reader finds them
abbrev pub tree_of : Result → Rows
tree_of r = read (take (TREE_ROW * r.answer.tree_count) r.buffers.trees)

-- the numbers of report row q, and its mark
abbrev pub report_row : Result → ℕ → List ℕ
report_row r q = take REPORT_ROW (drop (REPORT_ROW * q) r.buffers.reports)

abbrev pub mark : Result → ℕ → ℕ
mark r q = get_or r.buffers.reports (REPORT_ROW * q + REPORT_MARK) 0

-- A Name's report: message 8, its bytes, its first token; no expectation, so that its first pool place is the number of
-- all; hint 0 and no label.
abbrev pub Reports : Result → ℕ → ℕ → ℕ → ℕ → Type 0
Reports r q at byte width =
    report_row r q ≡ 8 ∷ byte ∷ (byte + width) ∷ at ∷ r.answer.expectation_count ∷ 0 ∷ 0 ∷ 0 ∷ 0 ∷ []

-- of a result r: its reports from row c on are those of the Names that break the rule
pub record Exact (bytes : List ℕ) (c : ℕ) (r : Result) : Type 0 where
  pub each_report : (q : ℕ) → c ≤ q → q < r.answer.report_count
      → (at : ℕ) × (byte : ℕ) × (width : ℕ) × Breaks bytes (tree_of r) at byte width × Reports r q at byte width
  pub each_name : (at byte width : ℕ) → Breaks bytes (tree_of r) at byte width
      → (q : ℕ) × (c ≤ q) × (q < r.answer.report_count) × Reports r q at byte width
  -- in leaf order, and each once
  pub in_order : (p q : ℕ) → c ≤ p → p < q → q < r.answer.report_count → mark r p < mark r q

-- for every accepted call in the strict setting; the old setting's reports come before
abbrev pub Exactly : Type 0
Exactly =
    (n s : ℕ) (bytes tokens : List ℕ) (b : Buffers) → (s ≡ 0 → ⊥) → (call n s bytes tokens b).answer.number ≡ 0
    → Exact bytes (call n 0 bytes tokens b).answer.report_count (call n s bytes tokens b)
