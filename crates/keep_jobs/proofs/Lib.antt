pub mod RunsOut
