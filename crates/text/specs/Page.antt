-- A page with a text laid into it: the same lent buffer, with what `put` makes of what it holds. Assumes nothing.
use Rattle.std.specs.Prelude.{ℕ, List}
use Rattle.text.specs.declared.Page.{Page}
use Rattle.text.specs.Sink.{Sink, sink, put}

-- what a page holds
abbrev pub held : Page → Sink
held p = sink p.at p.out.now

-- the page, holding this
abbrev pub holding : Page → Sink → Page
holding p k = record p { out = record p.out { now = k.bytes }; at = k.at }

-- the page, with a text laid into it
abbrev pub lay : List ℕ → Page → Page
lay text p = holding p (put text (held p))
