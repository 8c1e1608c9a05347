-- A call beside the old setting's: the same result; or a Name's report that does not fit, where the old setting comes
-- to cause 8; or two accepted calls.
use Prim.Native.Nat.{ℕ, zero, suc}
use native.Mathlib.Omega.{arith}
use mathlib.Core.Path.{◌≡◌, refl, ap, sym, ◌∙◌}
use mathlib.Core.Bool.{Bool, true, false, cond, ◌&&◌}
use mathlib.Core.List.{List, [], ◌∷◌}
use lib.Dec.{leb}
use lib.ListN.{length}
use Rattle.definitions.specs.Token.{Token, tokens_of}
use Rattle.definitions.specs.Grammar.{Entry}
use Rattle.definitions.specs.Skeleton.{Skeleton}
use Rattle.definitions.specs.Report.{Room, Fit, fits, stops, pushes, scan}
use Rattle.definitions.specs.Refusal.{Refusal, no_report_room, no_tree_room, Verdict, accepted, refused}
use Rattle.definitions.specs.RowCauses.{check_input}
use Rattle.definitions.specs.Strict.{NameAt, reported_names, names_fit}
use Rattle.definitions.specs.Call.{Buffers, cleared, Sheets, sheets, kept, delivered, unless_refused, outcome, room_of, run_entry, names_of, parse, Asked, for, unknown, entry_of, checked, asked, call}
use Rattle.laws.proofs.Accepted.{written_by}

pub data Beside (n s : ℕ) (bytes tokens : List ℕ) (b : Buffers) : Type 0 where
  -- answer and every buffer
  same : call n s bytes tokens b ≡ call n 0 bytes tokens b → Beside n s bytes tokens b
  -- cause 7 of a Name; the old setting accepts, or it is 8
  no_room : (m : ℕ) (z : Sheets) → call n s bytes tokens b ≡ cleared (no_report_room m) b → call n 0 bytes tokens b ≡ delivered z b → Beside n s bytes tokens b
  -- both accept
  both : (e : Entry) → call n s bytes tokens b ≡ kept (written_by s e bytes (tokens_of tokens)) b → call n 0 bytes tokens b ≡ kept (written_by 0 e bytes (tokens_of tokens)) b → Beside n s bytes tokens b

-- Names that do not fit are cause 7
refused_names : (room : ℕ) (l : List NameAt) (r : Refusal) → names_fit room l ≡ refused r → (m : ℕ) × (r ≡ no_report_room m)
unfolding names_fit
refused_names room [] r e = let x : ◌≡◌ {A = ℕ} 0 1 = cc in absurd (omega arith)
refused_names zero (n ∷ l) r e = (n.first_token, cc)
refused_names (suc room) (n ∷ l) r e = refused_names room l r e

module _ (n s : ℕ) (bytes tokens : List ℕ) (b : Buffers) (e : Entry) (for-e : entry_of n ≡ for e) (ok : check_input bytes tokens ≡ accepted) where
  abbrev ts : List Token
  ts = tokens_of tokens

  abbrev o : Skeleton
  o = run_entry e ts

  -- what a setting t writes
  abbrev z : ℕ → Sheets
  z t = sheets e ts o (names_of t e bytes ts)

  called : (t : ℕ) → call n t bytes tokens b ≡ outcome (scan (pushes o) (room_of b)) e ts o (names_of t e bytes ts) b
  unfolding call asked checked parse
  called t = rw (for-e, ok) refl

  after : (t : ℕ) (f : Fit) → scan (pushes o) (room_of b) ≡ f → call n t bytes tokens b ≡ outcome f e ts o (names_of t e bytes ts) b
  after t f h = called t ∙ ap (λ (q : Fit). outcome q e ts o (names_of t e bytes ts) b) h

  module _ (x : Room) (f : scan (pushes o) (room_of b) ≡ fits x) where
    -- the old setting comes to cause 8
    old : call n 0 bytes tokens b ≡ delivered (z 0) b
    unfolding outcome unless_refused names_fit reported_names
    old = after 0 (fits x) f

    its : (v : Verdict) → names_fit x.reports (names_of s e bytes ts) ≡ v → call n s bytes tokens b ≡ unless_refused v (z s) b
    unfolding outcome
    its v g = after s (fits x) f ∙ ap (λ (q : Verdict). unless_refused q (z s) b) g

    by_room : (y : Bool) → (leb (length (z 0).trees) (length b.trees) && leb (length (z 0).errors) (length b.errors)) ≡ y
        → names_fit x.reports (names_of s e bytes ts) ≡ accepted → Beside n s bytes tokens b
    unfolding unless_refused delivered sheets
    by_room true h g = both e (its accepted g ∙ ap (λ (q : Bool). cond q (kept (z s) b) (cleared no_tree_room b)) h) (old ∙ ap (λ (q : Bool). cond q (kept (z 0) b) (cleared no_tree_room b)) h)
    by_room false h g =
        same
        ((its accepted g ∙ ap (λ (q : Bool). cond q (kept (z s) b) (cleared no_tree_room b)) h)
        ∙ sym (old ∙ ap (λ (q : Bool). cond q (kept (z 0) b) (cleared no_tree_room b)) h))

    by_names : (v : Verdict) → names_fit x.reports (names_of s e bytes ts) ≡ v → Beside n s bytes tokens b
    unfolding unless_refused
    by_names accepted g = by_room _ refl g
    by_names (refused r) g =
        let w : (m : ℕ) × (r ≡ no_report_room m) = refused_names x.reports (names_of s e bytes ts) r g in
        no_room w.0 (z 0) (its (refused r) g ∙ ap (λ (q : Refusal). cleared q b) w.1) old

  by_fit : (f : Fit) → scan (pushes o) (room_of b) ≡ f → Beside n s bytes tokens b
  unfolding outcome
  by_fit (fits x) h = by_names x h _ refl
  by_fit (stops r) h = same (after s (stops r) h ∙ sym (after 0 (stops r) h))

pub beside : (n s : ℕ) (bytes tokens : List ℕ) (b : Buffers) → Beside n s bytes tokens b
unfolding call asked checked
beside n s bytes tokens b = by_entry (entry_of n) refl
  where
    by_input : (e : Entry) → entry_of n ≡ for e → (v : Verdict) → check_input bytes tokens ≡ v → Beside n s bytes tokens b
    by_input e h accepted ok = by_fit n s bytes tokens b e h ok _ refl
    by_input e h (refused r) bad =
        let to : (t : ℕ) → call n t bytes tokens b ≡ checked (refused r) e t bytes tokens b =
        λ t. ap (λ (y : Asked). asked y t bytes tokens b) h ∙ ap (λ (v : Verdict). checked v e t bytes tokens b) bad in
        same (to s ∙ sym (to 0))

    by_entry : (x : Asked) → entry_of n ≡ x → Beside n s bytes tokens b
    by_entry (for e) h = by_input e h _ refl
    by_entry unknown h =
        let to : (t : ℕ) → call n t bytes tokens b ≡ asked unknown t bytes tokens b = λ t. ap (λ (y : Asked). asked y t bytes tokens b) h in
        same (to s ∙ sym (to 0))
