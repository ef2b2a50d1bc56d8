-- `verdicts::large::Span::places`. Assumes nothing.
use Rattle.verdicts.proofs.Spans.{places-each, places-within}
use Rattle.verdicts.proofs.large.Span.places.Goals as goal

pub returns-clause-each : goal.returns-clause-each
returns-clause-each c = places-each c.requires.0.room c.requires.1

pub returns-clause-within : goal.returns-clause-within
returns-clause-within c = places-within c.requires.0.room c.requires.1
