-- Each demand by its theorem.
use Rattle.demands.specs.Demands.{Demands}
use Rattle.refusals.proofs.Refusals as refusals
use Rattle.laws.proofs.Lossless as lossless
use Rattle.laws.proofs.Limits as limits
use Rattle.laws.proofs.Once as once
use Rattle.precedence.proofs.Theorem as precedence
use Rattle.precedence.proofs.Listed as listed
use Rattle.brackets.proofs.Theorem as brackets
use Rattle.brackets.proofs.Partner as partner
use Rattle.recovery.proofs.Local as recovery
use Rattle.bounds.proofs.Numbers as bounds
use Rattle.strict.proofs.AsItWas as old
use Rattle.strict.proofs.Settings as settings
use Rattle.strict.proofs.Exactly as exactly
use Rattle.patterns.proofs.Textbook as patterns
use Rattle.lexing.proofs.ByRules as by_rules
use Rattle.lexing.proofs.Joined as joined
use Rattle.lexing.proofs.RowsPass as rows_pass
use Rattle.lex_table.proofs.Ties as ties
use Rattle.texts.proofs.Plain as plain
use Rattle.texts.proofs.TextRefusals as text_refusals
use Rattle.texts.proofs.TextAnswered as text_answered
use Rattle.texts.proofs.TextsLocal as texts_local
use Rattle.row_causes.proofs.ToldApart as row_causes
use Rattle.queries.proofs.Ending as ending
use Rattle.queries.proofs.Suffice as suffice
use Rattle.queries.proofs.Answered as answered
use Rattle.parents.proofs.Upwards as upwards
use Rattle.parents.proofs.FirstFour as first_four
use Rattle.run_steps.proofs.Complete as complete
use Rattle.turns.proofs.Turns as turns
use Rattle.pending.proofs.AsBefore as pending

pub demands : Demands
demands =
    record {
      promise_1 = record { answered = refusals.answered; refusals = refusals.refusals };
      promise_2 =
          record {
            nothing_lost = lossless.nothing_lost;
            c_table = precedence.c_table;
            one_tree = precedence.one_tree;
            brackets_proper = brackets.brackets_proper;
            partner_missed = partner.missed;
          };
      promise_3 = record { stays_local = recovery.stays_local };
      strict =
          record {
            as_it_was = old.as_it_was;
            one_strict_setting = settings.one_strict_setting;
            leaves_tree_alone = settings.leaves_tree_alone;
            same_refusals = settings.same_refusals;
            old_refusals = settings.old_refusals;
            exactly = exactly.exactly;
          };
      texts =
          record {
            textbook = patterns.textbook;
            by_rules = by_rules.by_rules;
            one_rule = ties.one_rule;
            joined = joined.joined;
            rows_pass = rows_pass.rows_pass;
            text_refusals = text_refusals.text_refusals;
            text_answered = text_answered.text_answered;
            accepted_is_plain = plain.accepted_is_plain;
            texts_stay_local = texts_local.texts_stay_local;
          };
      row_causes = record { told_apart = row_causes.told_apart };
      queries =
          record {
            as_parsed = ending.as_parsed;
            rows_suffice = suffice.rows_suffice;
            caret_answered = answered.caret_answered;
            parts_answered = answered.parts_answered;
          };
      expectations = record { once = once.once; as_before = pending.as_before };
      tree_parents = record { parents = upwards.parents; only_parents_new = first_four.only_parents_new };
      beside =
          record {
            limits = limits.limits;
            runs_bounded = bounds.runs_bounded;
            words_so_far = bounds.so_far;
            numbers_fit = bounds.numbers_fit;
            turns = turns.turns;
            steps_complete = complete.complete;
            as_listed = listed.as_listed;
          };
    }
