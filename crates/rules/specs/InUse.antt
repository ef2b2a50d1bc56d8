-- The palette whose entries in use a function is given. Definitions only. Assumes nothing.
use Rattle.rules.specs.Palette.{Palette, palette_of}
use Rattle.rules.specs.declared.Entries.{Entries}

abbrev pub in_use : Entries → Palette
in_use e = palette_of e.lab.now e.k
