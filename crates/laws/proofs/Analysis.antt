-- Analyses that compute on programs: what is known at each place that a program comes to, by the answers given on the
-- way there.
-- A domain says what facts there are and what each action does to them. `Look` below is the analysis; its soundness is
-- in Sound.antt.
use mathlib.Core.Bool.{Bool, true, cond, ◌&&◌}
use Rattle.definitions.specs.Prog.{Ans, no, yes, also, again, Rule, Act, Prog, ret, act, ◌⨟◌, case, in_marker, loop, chain, brace, open_call}

-- whether nothing forbidden is done; and what is known after each answer
pub record Look (F : Type 0) : Type 0 where
  pub ok : Bool
  pub if_no : F
  pub if_yes : F
  pub if_also : F
  pub if_again : F

abbrev pub get : {F : Type 0} → Look F → Ans → F
get l no = l.if_no
get l yes = l.if_yes
get l also = l.if_also
get l again = l.if_again

-- the same after every answer
abbrev pub same : {F : Type 0} → Bool → F → Look F
same b d = record { ok = b; if_no = d; if_yes = d; if_also = d; if_again = d }

pub record Domain : Type 1 where
  pub Fact : Type 0
  -- a place that is not reached; a place of which nothing is known
  pub never : Fact
  pub unknown : Fact
  -- of two ways to come to a place; whether one fact says no more than another
  pub join : Fact → Fact → Fact
  pub within : Fact → Fact → Bool
  pub acts : Act → Fact → Look Fact
  -- a program entered with a fact known
  pub from : Fact → (Fact → Look Fact) → Look Fact

module _ (D : Domain) where
  -- one answer only
  abbrev pub only : Ans → D.Fact → Look D.Fact
  only no d = record { ok = true; if_no = d; if_yes = D.never; if_also = D.never; if_again = D.never }
  only yes d = record { ok = true; if_no = D.never; if_yes = d; if_also = D.never; if_again = D.never }
  only also d = record { ok = true; if_no = D.never; if_yes = D.never; if_also = d; if_again = D.never }
  only again d = record { ok = true; if_no = D.never; if_yes = D.never; if_also = D.never; if_again = d }

  -- whatever the answer was
  abbrev pub any_of : Look D.Fact → D.Fact
  any_of l = D.join l.if_no (D.join l.if_yes (D.join l.if_also l.if_again))

  -- one after the other, and either of two
  abbrev pub then_look : Look D.Fact → Look D.Fact → Look D.Fact
  then_look l m = record { ok = l.ok && m.ok; if_no = m.if_no; if_yes = m.if_yes; if_also = m.if_also; if_again = m.if_again }

  abbrev pub either : Look D.Fact → Look D.Fact → Look D.Fact
  either l m =
      record {
        ok = l.ok && m.ok;
        if_no = D.join l.if_no m.if_no;
        if_yes = D.join l.if_yes m.if_yes;
        if_also = D.join l.if_also m.if_also;
        if_again = D.join l.if_again m.if_again;
      }

  -- without the answer again
  abbrev pub stopped : Look D.Fact → Look D.Fact
  stopped l = record { ok = l.ok; if_no = l.if_no; if_yes = l.if_yes; if_also = l.if_also; if_again = D.never }

  -- what holds at a loop's head: what held before it and what a turn leaves for another, if that is all, and else
  -- nothing is known
  unfoldable pub settled : D.Fact → (D.Fact → Look D.Fact) → D.Fact
  settled d f =
      let i = D.join d (D.from d f).if_again in
      cond (D.within (D.from i f).if_again i) i D.unknown

  -- the analysis; t: what is said of each counted function
  unfoldable pub look : (Rule → D.Fact → Look D.Fact) → Prog → D.Fact → Look D.Fact
  unfolding settled
  look t (ret k a) d = only a d
  look t (act a) d = D.acts a d
  look t (p ⨟ q) d = let l = look t p d in then_look l (D.from (any_of l) (look t q))
  look t (case c n y a) d =
      let l = look t c d in
      then_look l (either (D.from l.if_no (look t n)) (either (D.from (D.join l.if_yes l.if_again) (look t y)) (D.from l.if_also (look t a))))
  look t (in_marker p) d = look t p d
  look t (loop p) d = D.from (settled d (look t p)) (look t p)
  look t (chain p q) d = let l = look t p d in then_look l (either (stopped l) (D.from (settled l.if_again (look t q)) (look t q)))
  look t (brace p) d = look t p d
  look t (open_call r) d = t r d

  -- one look says no more than another
  abbrev pub looks_within : Look D.Fact → Look D.Fact → Bool
  looks_within l m =
      l.ok && (D.within l.if_no m.if_no && (D.within l.if_yes m.if_yes && (D.within l.if_also m.if_also && D.within l.if_again m.if_again)))
