use Rattle.std.proofs.Common.{◌<◌, ◌≤◌, length, Some, sym, ◌∙◌, arith}
use Rattle.apl_model.specs.Refusal.{outside}
use Rattle.apl_defn.proofs.CommandReads.{command_reads, command_of_all}
use Rattle.apl_defn.proofs.LineWords.{line_words, glyph_is}
use Rattle.apl_defn.proofs.Readers.{behind_first, run-more, stopped_before, stopped_behind}
use Rattle.apl_defn.specs.CommandSteps.{takes, finished}
use Rattle.apl_defn.specs.declared.commands.CommandSoFar.TheVariants as so_far
use Rattle.apl_defn.proofs.commands.read_command.Goals as goal

pub returns-in-None-clause-stopped : goal.returns-in-None-clause-stopped
returns-in-None-clause-stopped c =
    let l = c.args.line.now in
    let ts = c.as_slice-tokens.result.now in
    let i = c.loop-token.token-index in
    let b = c.requires.begins in
    let words = line_words l c.as_str-text.result.now c.as_str-text.utf8 c.as_str-text.ensures c.requires.read in
    let within : i < length (behind_first ts) = omega arith in
    λ hs.
    stopped_before takes finished so_far.Opened outside hs l.number b.0 (command_reads hs l.number b.0 (glyph_is ")" b.0 b.3))
    l ts b.1 i c.token-item.result c.loop-token.command c.requires.read words b.2 c.as_slice-tokens.ensures
    within c.token-item.is c.loop-token.invariant (sym c.in_ok-next.ensures ∙ c.in-None.is)

pub loop-token-preserved : goal.loop-token-preserved
loop-token-preserved c =
    let ts = c.as_slice-tokens.result.now in
    let i = c.loop-token.token-index in
    let within : i < length (behind_first ts) = omega arith in
    run-more takes (Some so_far.Opened) c.loop-token.command (behind_first ts) i c.token-item.result within c.token-item.is c.loop-token.invariant
    ∙ sym c.in_ok-next.ensures ∙ c.in-Some.is

pub returns-in-Some-finish-clause-command : goal.returns-in-Some-finish-clause-command
returns-in-Some-finish-clause-command c =
    let l = c.args.line.now in
    let ts = c.as_slice-tokens.result.now in
    let i = c.loop-token.token-index in
    let b = c.requires.begins in
    let words = line_words l c.as_str-text.result.now c.as_str-text.utf8 c.as_str-text.ensures c.requires.read in
    let past : length (behind_first ts) ≤ i = omega arith in
    command_of_all l b.0 b.1 ts i c.loop-token.command c.in-Some-finish.command words b.2 (glyph_is ")" b.0 b.3) c.as_slice-tokens.ensures
    past c.loop-token.invariant (sym c.in-Some-finish.ensures)

pub returns-in-None-finish-clause-stopped : goal.returns-in-None-finish-clause-stopped
returns-in-None-finish-clause-stopped c =
    let l = c.args.line.now in
    let ts = c.as_slice-tokens.result.now in
    let i = c.loop-token.token-index in
    let b = c.requires.begins in
    let words = line_words l c.as_str-text.result.now c.as_str-text.utf8 c.as_str-text.ensures c.requires.read in
    let past : length (behind_first ts) ≤ i = omega arith in
    rw c.ends_early.ensures
    (λ hs.
    stopped_behind takes finished so_far.Opened outside hs l.number b.0 (command_reads hs l.number b.0 (glyph_is ")" b.0 b.3))
    l ts b.1 i c.loop-token.command c.requires.read words b.2 c.as_slice-tokens.ensures
    past c.loop-token.invariant (sym c.in-None-finish.ensures))
