-- A dump as a reading board.
use Rattle.board_model.specs.Images.{Image}
use Rattle.board_model.specs.Layers.{dumped}
use Rattle.board.specs.declared.dump.Dump.{Dump}

abbrev pub dump_image : Dump → Image
dump_image d = dumped d.memory.now
