-- Document 02, 1/14: labels that start with a digit. "The Devicetree Specification lets a label hold letters, digits
-- and underscores and forbids a leading digit. Partners want a strict setting beside the old one. It leaves the tree
-- alone and adds message 8 for each Name directly under a DtLabel, or directly under an unbraced DtPhandle, that
-- breaks the rule. These reports, which the Rust lacks, follow all others, in leaf order, with hint 0 and no label.
-- Each covers the name, and its mark is the index of the name's first token. Length isn't judged. One that doesn't fit
-- is refusal 7 with that mark, before 8."
use Rattle.std.specs.Prelude.{ℕ, zero, suc, ◌+◌, ◌-◌, Bool, true, false, cond, not, ◌&&◌, ◌||◌, List, [], ◌∷◌, ◌++◌, leb, eqb, length, take, drop}
use Rattle.definitions.specs.Layout.{OLD_SETTING}
use Rattle.definitions.specs.TokenKind as K
use Rattle.definitions.specs.NodeKind as N
use Rattle.definitions.specs.Errors as E
use Rattle.definitions.specs.Token.{byte_count}
use Rattle.definitions.specs.Place.{Tree, nil, leaf, subtree, width}
use Rattle.definitions.specs.Refusal.{no_report_room, Verdict, accepted, refused}

-- ---------------------------------------------------------------- the rule, by bytes

-- an ASCII letter or an underscore
abbrev pub is_letter : ℕ → Bool
is_letter b = (leb 97 b && leb b 122) || (leb 65 b && leb b 90) || eqb b 95

abbrev pub is_digit : ℕ → Bool
is_digit b = leb 48 b && leb b 57

-- letters, digits and underscores
unfoldable pub in_label : List ℕ → Bool
in_label [] = true
in_label (b ∷ bytes) = (is_letter b || is_digit b) && in_label bytes

-- and no leading digit
unfoldable pub keeps_rule : List ℕ → Bool
unfolding in_label
keeps_rule [] = true
keeps_rule (b ∷ bytes) = is_letter b && in_label bytes

-- ---------------------------------------------------------------- the Names that it is for

-- a Name leaf: the index of its first token, and the bytes that it covers
pub record NameAt : Type 0 where
  pub first_token : ℕ
  pub start : ℕ
  pub end : ℕ

-- braced: an LCurly stands among these themselves, not below them
unfoldable pub has_lcurly : Tree → Bool
has_lcurly nil = false
has_lcurly (leaf k ts f) = eqb k K.LCurly || has_lcurly f
has_lcurly (subtree k c f) = has_lcurly f

-- a DtLabel, or an unbraced DtPhandle
unfoldable pub judges : ℕ → Tree → Bool
unfolding has_lcurly
judges k c = eqb k N.DtLabel || (eqb k N.DtPhandle && not (has_lcurly c))

-- how many raw tokens the leaves stand for
unfoldable pub token_count : Tree → ℕ
token_count nil = 0
token_count (leaf k ts f) = length ts + token_count f
token_count (subtree k c f) = token_count c + token_count f

-- The Names directly under such a node, in leaf order. under: these stand directly under one. at, byte: the token index
-- and the byte offset at which they start.
unfoldable pub judged : Bool → ℕ → ℕ → Tree → List NameAt
unfolding judges token_count width byte_count
judged under at byte nil = []
judged under at byte (leaf k ts f) =
    let more = judged under (at + length ts) (byte + byte_count ts) f in
    cond (under && eqb k K.Name) (record { first_token = at; start = byte; end = byte + byte_count ts } ∷ more) more
judged under at byte (subtree k c f) =
    judged (judges k c) at byte c ++ judged under (at + token_count c) (byte + width c) f

-- those that break the rule, in a file of these bytes
unfoldable pub breaking : List ℕ → List NameAt → List NameAt
unfolding keeps_rule
breaking bytes [] = []
breaking bytes (n ∷ l) =
    let more = breaking bytes l in
    cond (keeps_rule (take (n.end - n.start) (drop n.start bytes))) more (n ∷ more)

-- the Names that a setting reports: 0 is the old setting, any other number the strict one
unfoldable pub reported_names : ℕ → List ℕ → Tree → List NameAt
unfolding judged breaking
reported_names setting bytes t = let l = breaking bytes (judged false 0 0 t) in cond (eqb setting OLD_SETTING) [] l

-- ---------------------------------------------------------------- their reports

-- report rows; first: all expectations of the call, which come before them in the pool
unfoldable pub name_numbers : ℕ → List NameAt → List ℕ
name_numbers first [] = []
name_numbers first (n ∷ l) =
    E.not_a_label ∷ n.start ∷ n.end ∷ n.first_token ∷ first ∷ 0 ∷ E.no_hint ∷ 0 ∷ 0 ∷ name_numbers first l

-- where so many more report rows fit: the first that does not
unfoldable pub names_fit : ℕ → List NameAt → Verdict
names_fit room [] = accepted
names_fit zero (n ∷ l) = refused (no_report_room n.first_token)
names_fit (suc room) (n ∷ l) = names_fit room l
