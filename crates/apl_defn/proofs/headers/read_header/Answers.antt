use Rattle.std.proofs.Common.{[], ◌<◌, ◌≤◌, length, Some, sym, ◌∙◌, arith}
use Rattle.apl_model.specs.Refusal.{first_line}
use Rattle.apl_defn.proofs.HeaderReads.{opened, header_reads, head_of_all}
use Rattle.apl_defn.proofs.LineWords.{line_words}
use Rattle.apl_defn.proofs.Readers.{behind_first, run-more, stopped_before, stopped_behind}
use Rattle.apl_defn.specs.HeaderSteps.{takes, finished}
use Rattle.apl_defn.specs.declared.headers.HeaderSoFar.TheVariants as so_far
use Rattle.apl_defn.proofs.headers.read_header.Goals as goal

pub returns-in-None-clause-stopped : goal.returns-in-None-clause-stopped
returns-in-None-clause-stopped c =
    let l = c.args.line.now in
    let ts = c.as_slice-tokens.result.now in
    let i = c.loop-token.token-index in
    let s = opened l.tokens c.requires.opens in
    let words = line_words l c.as_str-text.result.now c.as_str-text.utf8 c.as_str-text.ensures c.requires.read in
    let within : i < length (behind_first ts) = omega arith in
    stopped_before takes finished so_far.Opened first_line [] l.number s.first (header_reads [] l.number s.first s.begins)
    l ts s.rest i c.token-item.result c.loop-token.header c.requires.read words s.split c.as_slice-tokens.ensures
    within c.token-item.is c.loop-token.invariant (sym c.in_ok-next.ensures ∙ c.in-None.is)

pub loop-token-preserved : goal.loop-token-preserved
loop-token-preserved c =
    let ts = c.as_slice-tokens.result.now in
    let i = c.loop-token.token-index in
    let within : i < length (behind_first ts) = omega arith in
    run-more takes (Some so_far.Opened) c.loop-token.header (behind_first ts) i c.token-item.result within c.token-item.is c.loop-token.invariant
    ∙ sym c.in_ok-next.ensures ∙ c.in-Some.is

pub returns-in-Some-finish-clause-header : goal.returns-in-Some-finish-clause-header
returns-in-Some-finish-clause-header c =
    let l = c.args.line.now in
    let ts = c.as_slice-tokens.result.now in
    let i = c.loop-token.token-index in
    let words = line_words l c.as_str-text.result.now c.as_str-text.utf8 c.as_str-text.ensures c.requires.read in
    let past : length (behind_first ts) ≤ i = omega arith in
    head_of_all l ts i c.loop-token.header c.in-Some-finish.header words c.requires.opens c.as_slice-tokens.ensures
    past c.loop-token.invariant (sym c.in-Some-finish.ensures)

pub returns-in-None-finish-clause-stopped : goal.returns-in-None-finish-clause-stopped
returns-in-None-finish-clause-stopped c =
    let l = c.args.line.now in
    let ts = c.as_slice-tokens.result.now in
    let i = c.loop-token.token-index in
    let s = opened l.tokens c.requires.opens in
    let words = line_words l c.as_str-text.result.now c.as_str-text.utf8 c.as_str-text.ensures c.requires.read in
    let past : length (behind_first ts) ≤ i = omega arith in
    rw c.ends_early.ensures
    (stopped_behind takes finished so_far.Opened first_line [] l.number s.first (header_reads [] l.number s.first s.begins)
    l ts s.rest i c.loop-token.header c.requires.read words s.split c.as_slice-tokens.ensures
    past c.loop-token.invariant (sym c.in-None-finish.ensures))
