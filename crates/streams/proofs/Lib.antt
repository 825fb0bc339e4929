mod Filling
mod Turning
