use Rattle.std.proofs.Common.{◌<◌, ◌+◌, length, map, refl, arith}
use Rattle.filter_syntax.proofs.Splitting.{no_word, other_byte, joins_all, words_after, split_after, place_after}
use Rattle.filter_syntax.proofs.Splitting.{names_added, end_within}
use Rattle.filter_syntax.proofs.by.split_names.Goals as goal

pub returns-then-len-eq0-clause-fault : goal.returns-then-len-eq0-clause-fault
returns-then-len-eq0-clause-fault c =
    no_word c.args.text.now c.loop-names.at
    (map (λ name. name.now) c.loop-names.names.items) c.loop-names.invariant.words c.loop-names.invariant.split
    c.loop-names.invariant.place
    (c.word_len-len.ensures.none c.if-len-eq0.true)

pub returns-then-end-text-clause-found : goal.returns-then-end-text-clause-found
returns-then-end-text-clause-found c =
    let some : 0 < c.word_len-len.result = omega arith in
    joins_all c.args.text.now c.loop-names.at (map
    (λ name. name.now) c.loop-names.names.items) c.loop-names.invariant.words c.loop-names.invariant.split
    c.loop-names.invariant.place
    c.word_len-len.result c.word_len-len.ensures.within (c.word_len-len.ensures.word some)
    (c.word_len-len.ensures.ends some)
    _ (map (λ name. name.now) c.push.new.self.items) refl
    (names_added c.loop-names.names.items c.push.new.self.items _ c.in_ok-push.ensures.items) c.if-end-text.true

pub returns-then-text-end-ne44-clause-fault : goal.returns-then-text-end-ne44-clause-fault
returns-then-text-end-ne44-clause-fault c =
    let some : 0 < c.word_len-len.result = omega arith in
    let end = end_within c.args.text.now c.loop-names.at c.word_len-len.result c.loop-names.invariant.within
    c.word_len-len.ensures.within in
    other_byte c.args.text.now c.loop-names.at (map
    (λ name. name.now) c.loop-names.names.items) c.loop-names.invariant.words c.loop-names.invariant.split
    c.loop-names.invariant.place
    c.word_len-len.result c.word_len-len.ensures.within (c.word_len-len.ensures.word some)
    (c.word_len-len.ensures.ends some)
    (omega (arith, end, c.if-end-text.false)) c.if-text-end-ne44.true

pub loop-names-preserved : goal.loop-names-preserved
loop-names-preserved c =
    let some : 0 < c.word_len-len.result = omega arith in
    let end = end_within c.args.text.now c.loop-names.at c.word_len-len.result c.loop-names.invariant.within
    c.word_len-len.ensures.within in
    let here : c.loop-names.at + c.word_len-len.result < length c.args.text.now =
    omega (arith, end, c.if-end-text.false) in
    let added = names_added c.loop-names.names.items c.push.new.self.items _ c.in_ok-push.ensures.items in
    record {
      within = omega arith;
      words = words_after c.args.text.now c.loop-names.at
          (map (λ name. name.now) c.loop-names.names.items) c.loop-names.invariant.words c.loop-names.invariant.split
          c.loop-names.invariant.place
          c.word_len-len.result c.word_len-len.ensures.within (c.word_len-len.ensures.word some)
          (c.word_len-len.ensures.ends some)
          _ (map (λ name. name.now) c.push.new.self.items) refl added;
      split = split_after c.args.text.now c.loop-names.at
          (map (λ name. name.now) c.loop-names.names.items) c.loop-names.invariant.words c.loop-names.invariant.split
          c.loop-names.invariant.place
          c.word_len-len.result c.word_len-len.ensures.within (c.word_len-len.ensures.word some)
          (c.word_len-len.ensures.ends some)
          _ (map (λ name. name.now) c.push.new.self.items) refl added here c.if-text-end-ne44.false;
      place = place_after c.args.text.now c.loop-names.at
          (map (λ name. name.now) c.loop-names.names.items) c.loop-names.invariant.words c.loop-names.invariant.split
          c.loop-names.invariant.place
          c.word_len-len.result c.word_len-len.ensures.within (c.word_len-len.ensures.word some)
          (c.word_len-len.ensures.ends some)
          _ (map (λ name. name.now) c.push.new.self.items) refl added;
    }
