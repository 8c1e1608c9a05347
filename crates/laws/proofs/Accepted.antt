-- An accepted call, taken apart: which entry it is, that its input passed every check, that all it pushed fitted, the
-- reports of its setting too, and what it returns.
use Prim.Native.Nat.{ℕ, ◌≤◌}
use native.Mathlib.Omega.{arith}
use mathlib.Core.Path.{◌≡◌, refl, ap, sym, ◌∙◌}
use mathlib.Core.Bool.{Bool, true, false, cond, ◌&&◌}
use mathlib.Core.List.{List}
use lib.Dec.{leb}
use lib.ListN.{length}
use borrow.Author.Tests.{leb-true}
use Rattle.definitions.specs.Token.{Token, tokens_of}
use Rattle.definitions.specs.Grammar.{Entry}
use Rattle.definitions.specs.Skeleton.{Skeleton}
use Rattle.definitions.specs.Strict.{NameAt, names_fit}
use Rattle.definitions.specs.Report.{Room, Fit, fits, stops, pushes, scan}
use Rattle.definitions.specs.Refusal.{Refusal, unknown_entry, too_long, odd_count, bad_kind, zero_length, past_input, short_total, bad_text, too_deep, no_event_room, no_report_room, no_tree_room, number_of, Verdict, accepted, refused}
use Rattle.definitions.specs.RowCauses.{check_input}
use Rattle.definitions.specs.Call.{Buffers, Result, cleared, Sheets, sheets, kept, delivered, forward_mark, unless_refused, outcome, room_of, run_entry, names_of, parse, Asked, for, unknown, entry_of, checked, asked, call}
use Rattle.basics.proofs.Tests.{and_left, and_right}

-- what an accepted call writes
abbrev pub written_by : ℕ → Entry → List ℕ → List Token → Sheets
written_by setting e bytes ts = sheets e ts (run_entry e ts) (names_of setting e bytes ts)

pub record Accepted (n setting : ℕ) (bytes tokens : List ℕ) (b : Buffers) : Type 0 where
  pub entry : Entry
  pub asked_for : entry_of n ≡ for entry
  -- none of causes 2 to 4 and 11 to 13 holds
  pub input : check_input bytes tokens ≡ accepted
  -- nor do causes 5 to 7
  pub left : Room
  pub fitted : scan (pushes (run_entry entry (tokens_of tokens))) (room_of b) ≡ fits left
  -- nor does cause 7 for the Names that the setting reports
  pub names_fitted : names_fit left.reports (names_of setting entry bytes (tokens_of tokens)) ≡ accepted
  -- nor does cause 8
  pub trees_fit : length (written_by setting entry bytes (tokens_of tokens)).trees ≤ length b.trees
  pub errors_fit : length (written_by setting entry bytes (tokens_of tokens)).errors ≤ length b.errors
  -- what it returns
  pub returns : call n setting bytes tokens b ≡ kept (written_by setting entry bytes (tokens_of tokens)) b

-- a refusal's number is not 0
pub refusal_number : (r : Refusal) → number_of r ≡ 0 → ⊥
unfolding number_of
refusal_number unknown_entry e = omega arith
refusal_number too_long e = omega arith
refusal_number (odd_count i) e = omega arith
refusal_number (bad_kind i) e = omega arith
refusal_number (zero_length i) e = omega arith
refusal_number (past_input i) e = omega arith
refusal_number (short_total i) e = omega arith
refusal_number (bad_text i) e = omega arith
refusal_number (too_deep m) e = omega arith
refusal_number (no_event_room m) e = omega arith
refusal_number (no_report_room m) e = omega arith
refusal_number no_tree_room e = omega arith

module _ (n setting : ℕ) (bytes tokens : List ℕ) (b : Buffers) (e : Entry) (for-e : entry_of n ≡ for e) (ok : check_input bytes tokens ≡ accepted) where
  abbrev o : Skeleton
  o = run_entry e (tokens_of tokens)

  abbrev l : List NameAt
  l = names_of setting e bytes (tokens_of tokens)

  abbrev z : Sheets
  z = sheets e (tokens_of tokens) o l

  called : call n setting bytes tokens b ≡ outcome (scan (pushes o) (room_of b)) e (tokens_of tokens) o l b
  unfolding call asked checked parse
  called = rw (for-e, ok) refl

  -- after the run
  after : (x : Room) → scan (pushes o) (room_of b) ≡ fits x → call n setting bytes tokens b ≡ unless_refused (names_fit x.reports l) z b
  unfolding outcome
  after x f = called ∙ ap (λ (q : Fit). outcome q e (tokens_of tokens) o l b) f

  by_room : (x : Room) → scan (pushes o) (room_of b) ≡ fits x → names_fit x.reports l ≡ accepted
      → (y : Bool) → (leb (length z.trees) (length b.trees) && leb (length z.errors) (length b.errors)) ≡ y
      → (call n setting bytes tokens b).answer.number ≡ 0 → Accepted n setting bytes tokens b
  unfolding unless_refused delivered number_of
  by_room x f g true t h =
      record {
        entry = e;
        asked_for = for-e;
        input = ok;
        left = x;
        fitted = f;
        names_fitted = g;
        trees_fit = leb-true _ _ (and_left _ _ t);
        errors_fit = leb-true _ _ (and_right (leb (length z.trees) (length b.trees)) _ t);
        returns = after x f ∙ ap (λ (v : Verdict). unless_refused v z b) g ∙ ap (λ (q : Bool). cond q (kept z b) (cleared no_tree_room b)) t;
      }
  by_room x f g false t h =
      absurd
      (refusal_number no_tree_room
      (sym (ap (λ (r : Result). r.answer.number) (after x f ∙ ap (λ (v : Verdict). unless_refused v z b) g ∙ ap (λ (q : Bool). cond q (kept z b) (cleared no_tree_room b)) t)) ∙ h))

  by_names : (x : Room) → scan (pushes o) (room_of b) ≡ fits x → (v : Verdict) → names_fit x.reports l ≡ v
      → (call n setting bytes tokens b).answer.number ≡ 0 → Accepted n setting bytes tokens b
  unfolding unless_refused
  by_names x f accepted g h = by_room x f g _ refl h
  by_names x f (refused r) g h = absurd (refusal_number r (sym (ap (λ (q : Result). q.answer.number) (after x f ∙ ap (λ (v : Verdict). unless_refused v z b) g)) ∙ h))

  by_fit : (f : Fit) → scan (pushes o) (room_of b) ≡ f → (call n setting bytes tokens b).answer.number ≡ 0 → Accepted n setting bytes tokens b
  unfolding outcome
  by_fit (fits x) f h = by_names x f _ refl h
  by_fit (stops r) f h =
      absurd (refusal_number (forward_mark (length (tokens_of tokens)) r) (sym (ap (λ (q : Result). q.answer.number) (called ∙ ap (λ (q : Fit). outcome q e (tokens_of tokens) o l b) f)) ∙ h))

-- AN ACCEPTED CALL is one that returns number 0
pub accepted_call : (n setting : ℕ) (bytes tokens : List ℕ) (b : Buffers) → (call n setting bytes tokens b).answer.number ≡ 0 → Accepted n setting bytes tokens b
unfolding call asked checked
accepted_call n setting bytes tokens b h = by_entry (entry_of n) refl
  where
    by_input : (e : Entry) → entry_of n ≡ for e → (v : Verdict) → check_input bytes tokens ≡ v → Accepted n setting bytes tokens b
    by_input e for-e accepted ok = by_fit n setting bytes tokens b e for-e ok _ refl h
    by_input e for-e (refused r) bad = absurd (refusal_number r (sym (ap (λ (x : Asked). (asked x setting bytes tokens b).answer.number) for-e ∙ ap (λ (v : Verdict). (checked v e setting bytes tokens b).answer.number) bad) ∙ h))

    by_entry : (x : Asked) → entry_of n ≡ x → Accepted n setting bytes tokens b
    by_entry (for e) for-e = by_input e for-e (check_input bytes tokens) refl
    by_entry unknown none = absurd (refusal_number unknown_entry (sym (ap (λ (x : Asked). (asked x setting bytes tokens b).answer.number) none) ∙ h))
