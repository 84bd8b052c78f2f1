mod Right
mod Promised
mod BothBuilds
mod Lines
mod StaticFound
