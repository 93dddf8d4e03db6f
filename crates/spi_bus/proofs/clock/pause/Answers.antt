use Rattle.std.proofs.Common.{rules}
use Rattle.datasheet.specs.Calls.{put}
use Rattle.datasheet.specs.Kept.{bounded}
use Rattle.spi_model.proofs.Pieces.{holding_more, holding_all, released, not_held}
use Rattle.spi_bus.proofs.clock.pause.Goals as goal

pub loop-i-preserved : goal.loop-i-preserved
loop-i-preserved g c =
    let setting = c.args.setting in
    let b = c.args.bit in
    let now = c.loop-i.pins in
    let chip = holding_more (put bounded) setting.mode setting.wp b (g.P.Pins.chip now) setting.waits c.loop-i._i in
    let trace = holding_more g.P.Pins.traced setting.mode setting.wp b (g.P.Pins.trace now) setting.waits c.loop-i._i in
    search rules

pub returns-then-setting-gt0 : goal.returns-then-setting-gt0
returns-then-setting-gt0 g c =
    let setting = c.args.setting in
    let b = c.args.bit in
    let now = c.loop-i.pins in
    let before = c.args.pins.now in
    let chip-all = holding_all (put bounded) setting.mode setting.wp b (g.P.Pins.chip now) setting.waits c.loop-i._i in
    let chip-end = released (put bounded) setting.mode setting.wp b (g.P.Pins.chip before) setting.waits in
    let trace-all = holding_all g.P.Pins.traced setting.mode setting.wp b (g.P.Pins.trace now) setting.waits c.loop-i._i in
    let trace-end = released g.P.Pins.traced setting.mode setting.wp b (g.P.Pins.trace before) setting.waits in
    search rules

pub returns-else-setting-gt0 : goal.returns-else-setting-gt0
returns-else-setting-gt0 g c =
    let setting = c.args.setting in
    let b = c.args.bit in
    let now = c.loop-i.pins in
    let before = c.args.pins.now in
    let chip-all = holding_all (put bounded) setting.mode setting.wp b (g.P.Pins.chip now) setting.waits c.loop-i._i in
    let chip-end = not_held (put bounded) setting.mode setting.wp b (g.P.Pins.chip before) setting.waits in
    let trace-all = holding_all g.P.Pins.traced setting.mode setting.wp b (g.P.Pins.trace now) setting.waits c.loop-i._i in
    let trace-end = not_held g.P.Pins.traced setting.mode setting.wp b (g.P.Pins.trace before) setting.waits in
    search rules
