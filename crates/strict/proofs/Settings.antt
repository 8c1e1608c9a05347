-- The statements of specs/Settings.antt, by what a call is beside the old setting's (Beside).
use Prim.Native.Nat.{ℕ, ◌*◌, ◌/◌}
use native.Mathlib.Omega.{arith}
use mathlib.Core.Path.{◌≡◌, refl, ap, sym, ◌∙◌, subst}
use mathlib.Core.Bool.{Bool, true, false, cond, ◌&&◌}
use mathlib.Core.List.{List, [], ◌++◌, append_assoc}
use mathlib.Core.Logic.{◌⊎◌, inl, inr}
use lib.Dec.{leb}
use lib.ListN.{length, take}
use lib.Seq.{take_at}
use borrow.Author.Tests.{ne_eqb}
use Rattle.definitions.specs.Layout.{REPORT_ROW, NO_REPORT_ROOM, NO_TREE_ROOM}
use Rattle.definitions.specs.Token.{Token, tokens_of}
use Rattle.definitions.specs.Grammar.{Entry, root_kind}
use Rattle.definitions.specs.Place.{Tree, root}
use Rattle.definitions.specs.Report.{pushes, scan}
use Rattle.definitions.specs.Refusal.{no_report_room, no_tree_room, number_of, Verdict, accepted, refused}
use Rattle.definitions.specs.RowCauses.{check_input}
use Rattle.definitions.specs.Strict.{NameAt, judged, breaking, reported_names}
use Rattle.definitions.specs.Call.{Buffers, Result, cleared, Sheets, sheets, kept, delivered, outcome, room_of, run_entry, parse, Asked, for, unknown, entry_of, checked, asked, call}
use Rattle.laws.proofs.Accepted.{written_by}
use Rattle.strict.specs.Settings.{OneStrictSetting, SameTree, LeavesTreeAlone, SameRefusals, OldRefusals}
use Rattle.strict.proofs.ReportRows.{run_rows, run_rows_length, name_rows, old_rows, old_count, all_count}
use Rattle.strict.proofs.Beside.{Beside, same, no_room, both, beside}

-- ---------------------------------------------------------------- one strict setting

-- the Names that break the rule, in any setting but 0
pub strict_names : (s : ℕ) (bytes : List ℕ) (t : Tree) → (s ≡ 0 → ⊥) → reported_names s bytes t ≡ breaking bytes (judged false 0 0 t)
unfolding reported_names
strict_names s bytes t h = ap (λ (q : Bool). cond q [] (breaking bytes (judged false 0 0 t))) (ne_eqb s 0 h)

pub one_strict_setting : OneStrictSetting
unfolding call asked checked parse
one_strict_setting n s t bytes tokens b h g = by_entry (entry_of n)
  where
    parsed : (e : Entry) (ts : List Token) → parse e s bytes ts b ≡ parse e t bytes ts b
    parsed e ts =
        ap (λ (l : List NameAt). outcome (scan (pushes (run_entry e ts)) (room_of b)) e ts (run_entry e ts) l b)
        (strict_names s bytes (root (root_kind e) (run_entry e ts) ts) h ∙ sym (strict_names t bytes (root (root_kind e) (run_entry e ts) ts) g))

    by_input : (e : Entry) (v : Verdict) → checked v e s bytes tokens b ≡ checked v e t bytes tokens b
    by_input e accepted = parsed e (tokens_of tokens)
    by_input e (refused r) = refl

    by_entry : (x : Asked) → asked x s bytes tokens b ≡ asked x t bytes tokens b
    by_entry (for e) = by_input e (check_input bytes tokens)
    by_entry unknown = refl

-- ---------------------------------------------------------------- it leaves the tree alone

-- rows in front of others and of whatever follows
in_front : (r x n p q : List ℕ) (m : ℕ) → x ≡ r → length r ≡ m → take m (x ++ p) ≡ take m ((r ++ n) ++ q)
in_front r x n p q m e h = ap (λ (y : List ℕ). take m (y ++ p)) e ∙ take_at r p m h ∙ sym (ap (take m) (append_assoc r n q) ∙ take_at r (n ++ q) m h)

-- two accepted calls
kept_tree : (s : ℕ) (e : Entry) (bytes : List ℕ) (ts : List Token) (b : Buffers) → SameTree (kept (written_by s e bytes ts) b) (kept (written_by 0 e bytes ts) b)
unfolding sheets
kept_tree s e bytes ts b =
    record {
      number = refl;
      place = refl;
      events = refl;
      trees = refl;
      errors = refl;
      pool = refl;
      tree_count = refl;
      error_count = refl;
      expectation_count = refl;
      no_fewer = omega (arith, old_count e bytes ts, all_count s e bytes ts);
      first_reports = in_front (run_rows e ts) (written_by 0 e bytes ts).reports (name_rows s e bytes ts) _ _ _ (old_rows e bytes ts) whole;
    }
  where
    -- the old setting's rows, as many numbers as the run's
    whole : length (run_rows e ts) ≡ REPORT_ROW * (length (written_by 0 e bytes ts).reports / REPORT_ROW)
    whole = run_rows_length e ts ∙ ap (REPORT_ROW *◌) (sym (old_count e bytes ts))

-- a refusal's number
seven : (m : ℕ) (b : Buffers) → (cleared (no_report_room m) b).answer.number ≡ NO_REPORT_ROOM
unfolding number_of
seven m b = refl

-- what comes to cause 8 is accepted or it is 8
delivered_number : (z : Sheets) (b : Buffers) → ((delivered z b).answer.number ≡ 0) ⊎ ((delivered z b).answer.number ≡ NO_TREE_ROOM)
unfolding delivered number_of
delivered_number z b = by_room (leb (length z.trees) (length b.trees) && leb (length z.errors) (length b.errors))
  where
    by_room : (q : Bool) → ((cond q (kept z b) (cleared no_tree_room b)).answer.number ≡ 0) ⊎ ((cond q (kept z b) (cleared no_tree_room b)).answer.number ≡ NO_TREE_ROOM)
    by_room true = inl refl
    by_room false = inr refl

-- a result is the same tree as itself
itself : (r : Result) → r.answer.number ≡ 0 → SameTree r r
itself r h =
    record {
      number = h;
      place = refl;
      events = refl;
      trees = refl;
      errors = refl;
      pool = refl;
      tree_count = refl;
      error_count = refl;
      expectation_count = refl;
      no_fewer = omega arith;
      first_reports = refl;
    }

pub leaves_tree_alone : LeavesTreeAlone
leaves_tree_alone n s bytes tokens b h = by_case (beside n s bytes tokens b)
  where
    by_case : Beside n s bytes tokens b → SameTree (call n s bytes tokens b) (call n 0 bytes tokens b)
    by_case (same e) = subst (SameTree (call n s bytes tokens b)) e (itself (call n s bytes tokens b) h)
    by_case (no_room m z e f) = let x : (call n s bytes tokens b).answer.number ≡ NO_REPORT_ROOM = ap (λ (r : Result). r.answer.number) e ∙ seven m b in absurd (omega (arith, h, x))
    by_case (both e f g) =
        subst (λ (r : Result). SameTree r (call n 0 bytes tokens b)) (sym f)
        (subst (SameTree (kept (written_by s e bytes (tokens_of tokens)) b)) (sym g) (kept_tree s e bytes (tokens_of tokens) b))

-- ---------------------------------------------------------------- refusals

pub same_refusals : SameRefusals
same_refusals n s bytes tokens b h g = by_case (beside n s bytes tokens b)
  where
    by_case : Beside n s bytes tokens b → call n 0 bytes tokens b ≡ call n s bytes tokens b
    by_case (same e) = sym e
    by_case (no_room m z e f) = absurd (g (ap (λ (r : Result). r.answer.number) e ∙ seven m b))
    by_case (both x e f) = absurd (h (ap (λ (r : Result). r.answer.number) e))

pub old_refusals : OldRefusals
old_refusals n s bytes tokens b h = by_case (beside n s bytes tokens b)
  where
    Answers : Type 0
    Answers =
        (call n s bytes tokens b ≡ call n 0 bytes tokens b)
        ⊎ (((call n 0 bytes tokens b).answer.number ≡ NO_TREE_ROOM) × ((call n s bytes tokens b).answer.number ≡ NO_REPORT_ROOM))

    by_number : (m : ℕ) (z : Sheets) → call n s bytes tokens b ≡ cleared (no_report_room m) b → call n 0 bytes tokens b ≡ delivered z b
        → ((delivered z b).answer.number ≡ 0) ⊎ ((delivered z b).answer.number ≡ NO_TREE_ROOM) → Answers
    by_number m z e f (inl x) = absurd (h (ap (λ (r : Result). r.answer.number) f ∙ x))
    by_number m z e f (inr x) = inr (ap (λ (r : Result). r.answer.number) f ∙ x, ap (λ (r : Result). r.answer.number) e ∙ seven m b)

    by_case : Beside n s bytes tokens b → Answers
    by_case (same e) = inl e
    by_case (no_room m z e f) = by_number m z e f (delivered_number z b)
    by_case (both x e f) = absurd (h (ap (λ (r : Result). r.answer.number) f))
