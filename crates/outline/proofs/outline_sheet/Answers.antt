-- Drawn on the sheet itself, or on the padded sheet. Assumes nothing.
use Rattle.std.proofs.Common.{◌≡◌, Bool, not, ◌&&◌, sym, ap, ◌∙◌, arith}
use Rattle.rules.specs.declared.Drawing.{Drawing}
use Rattle.rules.specs.Sheet.{Sheet, sheet_of}
use Rattle.rules.specs.Palette.{palette_of}
use Rattle.rules.specs.Outline.{asked, touches, pads}
use Rattle.outline.proofs.Refusing.{seated, room_padded, room_plain}
use Rattle.outline.proofs.Drawn.{drew_padded, drew_plain}
use Rattle.outline.proofs.outline_sheet.Goals as goal

-- padding applies by whether an edge is touched
padding_is : (how : Drawing) (s : Sheet) {t r : Bool} → t ≡ touches s → r ≡ (how.allow_pad && asked how.outline && t) → r ≡ pads how s
unfolding pads
padding_is how s e q = q ∙ ap (λ (b : Bool). how.allow_pad && asked how.outline && b) e

pub invariant_of-on : goal.invariant_of-on
invariant_of-on c = record { present = seated _ c.args.cells.now c.requires.room }

pub draw-requires-clause-present : goal.draw-requires-clause-present
draw-requires-clause-present c = seated _ c.args.cells.now c.requires.room

pub draw-requires-clause-palette_len : goal.draw-requires-clause-palette_len
draw-requires-clause-palette_len c = (c.requires.palette_len.0, c.requires.palette_len.1, (room_plain _ c.requires.room).1)

pub returns-then-not-pads : goal.returns-then-not-pads
returns-then-not-pads c =
    let a = c.args in
    let padded = padding_is a.how (sheet_of a.cells.now a.size.h a.size.w) c.touches_edge-touched.ensures c.pads.ensures in
    drew_plain _ a.how (palette_of a.palette.now a.k) a.cells.now a.size.h a.size.w (ap (λ (b : Bool). b && not a.how.allow_pad) c.touches_edge-touched.ensures)
    (sym padded ∙ c.if-not-pads.true) c.draw.ensures

pub pad-requires : goal.pad-requires
pad-requires c =
    let a = c.args in
    let padded = padding_is a.how (sheet_of a.cells.now a.size.h a.size.w) c.touches_edge-touched.ensures c.pads.ensures in
    (c.requires.room.high, c.requires.room.wide, (room_padded _ c.requires.room (sym padded ∙ c.if-not-pads.false)).0)

pub draw-requires-2 : goal.draw-requires-2
draw-requires-2 c =
    let a = c.args in
    let padded = padding_is a.how (sheet_of a.cells.now a.size.h a.size.w) c.touches_edge-touched.ensures c.pads.ensures in
    let n = room_padded _ c.requires.room (sym padded ∙ c.if-not-pads.false) in
    record {
      present = record { high = omega (arith, c.requires.room.high); wide = omega (arith, c.requires.room.wide); room = omega (arith, n.0, c.pad.auto.cells) };
      palette_len = (c.requires.palette_len.0, c.requires.palette_len.1, n.1);
    }

pub returns : goal.returns
returns c =
    let a = c.args in
    let padded = padding_is a.how (sheet_of a.cells.now a.size.h a.size.w) c.touches_edge-touched.ensures c.pads.ensures in
    drew_padded _ a.how (palette_of a.palette.now a.k) a.cells.now a.size.h a.size.w (ap (λ (b : Bool). b && not a.how.allow_pad) c.touches_edge-touched.ensures)
    (sym padded ∙ c.if-not-pads.false) _ c.pad.ensures c.draw-2.ensures
